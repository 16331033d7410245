-- What carrying out a judged tray leaves is what the tray asks for. Assumes nothing.
use Rattle.std.specs.Prelude.{Option, Some, None, Ok, Err}
use mathlib.Core.Path.{◌≡◌, refl, sym, ap, ap₂, ◌∙◌, fun_ext}
use mathlib.Core.Bool.{Bool, true, false, not}
use mathlib.Core.List.{List, map}
use Prim.Native.Nat.{ℕ}
use borrow.Author.Tests.{not-true, not-false}
use Rattle.lists.specs.Lists.{any}
use Rattle.lists.proofs.Cases.{on}
use Rattle.layout.specs.declared.Refusal.TheVariants.{NotWellFormed, BadRecord}
use Rattle.layout.specs.Content.{Table, live_vertices, live_hyperedges, position}
use Rattle.layout.specs.Layout.{limit, read, words}
use Rattle.layout.specs.WellFormed.{well_formed}
use Rattle.layout.specs.Answers.{result_of, on_formed}
use Rattle.layout.proofs.Answers.{formed-result}
use Rattle.layout.proofs.Position.{position-found, missing-dead}
use Rattle.edits.specs.Results.{first_passing}
use Rattle.edits.specs.Removing.{sifted}
use Rattle.removals.specs.Removals.{Removal, is_vertex, is_hyperedge, stays_vertex, stays_hyperedge, kept_vertex, kept_hyperedge, thinned, withdrawn}
use Rattle.trays.specs.declared.Withdrawal.{Withdrawal}
use Rattle.trays.specs.Trays.{is_faulty, asked, tray_result}
use Rattle.tray_marks.specs.declared.Tray.{Tray}
use Rattle.tray_marks.specs.Marking.{no_marks, opened, tray_of}
use Rattle.tray_marks.proofs.Marking.{tray-tested}
use Rattle.tray_marks.proofs.Named.{Named, none-marked, AllNamed, tray-first, tray-named}
use Rattle.withdraw_marked.specs.Sparing.{mark_at, spared, spared_vertex, spared_hyperedge, spared_of, unmarked_of}
use Rattle.withdraw_tray.specs.Carried.{carried_out}

-- ---- where no record is faulty

-- of one kind: a number is spared that no removal names
spared-stays : (live : List ℕ) (names : ℕ → Removal → Bool) (rs : List Removal) (n : ℕ) (marks : List Bool) → Named live names rs (no_marks n) marks
    → (x : ℕ) → spared marks live x ≡ not (any (names x) rs)
unfolding spared
spared-stays live names rs n marks m x = ap not (go (position x live) refl)
  where
    go : (p : Option ℕ) → position x live ≡ p → mark_at marks p ≡ any (names x) rs
    go (Some k) e = let f = position-found x live k e in m.each k f.0 ∙ rw (none-marked n k, f.1)
    go None e = sym (m.others x (missing-dead x live e))

unmarked-withdrawn : (ws : List ℕ) (tray : Tray) (t : Table) (rs : List Removal) → AllNamed t rs (opened ws) tray → unmarked_of tray.vertices tray.hyperedges t ≡ withdrawn rs t
unfolding opened unmarked_of spared_of spared_vertex spared_hyperedge sifted withdrawn kept_vertex kept_hyperedge thinned stays_vertex stays_hyperedge
unmarked-withdrawn ws tray t rs a =
    ap₂ (λ (p h : ℕ → Bool). spared_of p h t)
    (fun_ext (spared-stays (live_vertices t) is_vertex rs _ tray.vertices a.vertices))
    (fun_ext (spared-stays (live_hyperedges t) is_hyperedge rs _ tray.hyperedges a.hyperedges))

-- ---- 1, 15, done

module _ (ws : List ℕ) (rs : List Withdrawal) where
  carried-formed : well_formed limit ws ≡ true → (p : Option ℕ) → first_passing (is_faulty (read limit ws)) rs ≡ p → carried_out (tray_of ws rs) ws ≡ tray_result rs ws (read limit ws)
  unfolding carried_out tray_result opened
  carried-formed f (Some k) e = let q = tray-first ws f rs k e in rw (tray-tested ws rs, f, q.0, q.1, e)
  carried-formed f None e = let q = tray-named ws f rs e in
      rw (tray-tested ws rs, f, q.faulty, e) (ap (λ (t : Table). result_of (Ok 0) (words limit t)) (unmarked-withdrawn ws (tray_of ws rs) (read limit ws) (map asked rs) q))

  pub tray-result : carried_out (tray_of ws rs) ws ≡ on_formed ws ws (tray_result rs ws)
  unfolding carried_out on_formed
  tray-result = on (well_formed limit ws)
      (λ f. carried-formed f (first_passing (is_faulty (read limit ws)) rs) refl ∙ sym (formed-result ws ws (tray_result rs ws) f))
      (λ f. rw (tray-tested ws rs, f))

-- ---- for `search`: the tests of `carry_out`, in their order

module _ (tray : Tray) (ws : List ℕ) where
  pub carried-unformed : not tray.formed ≡ true → result_of (Err NotWellFormed) ws ≡ carried_out tray ws
  unfolding carried_out
  carried-unformed f = rw (not-true tray.formed f)

  module _ (f : not tray.formed ≡ false) where
    pub carried-faulty : tray.faulty ≡ true → result_of (Err (BadRecord tray.place)) ws ≡ carried_out tray ws
    unfolding carried_out
    carried-faulty g = rw (not-false tray.formed f, g)

    pub carried-done : tray.faulty ≡ false → (exit : List ℕ) → exit ≡ words limit (unmarked_of tray.vertices tray.hyperedges (read limit ws))
        → result_of (Ok 0) exit ≡ carried_out tray ws
    unfolding carried_out
    carried-done g exit q = rw (not-false tray.formed f, g, q)
