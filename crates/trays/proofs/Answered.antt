-- What a tray is answered: 1, 15 or done; all of it is carried out, or nothing. Assumes nothing.
use Rattle.std.specs.Prelude.{Option, Ok, Err}
use mathlib.Core.Path.{◌≡◌, refl, sym, ap, ◌∙◌}
use mathlib.Core.Bool.{true, false}
use mathlib.Core.Logic.{◌⊎◌, inl, inr, ⊎_elim}
use mathlib.Core.List.{List, [], map}
use Prim.Native.Nat.{ℕ, ◌<◌}
use native.Mathlib.Omega.{arith}
use borrow.Author.Tests.{ne_eqb}
use Rattle.lists.specs.Lists.{all}
use Rattle.lists.proofs.Cases.{on}
use Rattle.layout.specs.declared.Refusal.TheVariants.{NotWellFormed, BadRecord}
use Rattle.layout.specs.Content.{Table, live_vertices, live_hyperedges, is_live}
use Rattle.layout.specs.Layout.{limit, read, words}
use Rattle.layout.specs.WellFormed.{well_formed}
use Rattle.layout.specs.Answers.{Result, result_of, on_formed}
use Rattle.layout.proofs.Answers.{formed-result}
use Rattle.removals.specs.Removals.{Removal, vertex, hyperedge, remove_all, withdrawn}
use Rattle.removals.proofs.Theorems.{removals-words}
use Rattle.trays.specs.declared.Withdrawal.{Withdrawal}
use Rattle.trays.specs.Trays.{names_live, is_faulty, asked, on_faultless, tray_result, tray}
use Rattle.trays.specs.Outcomes.{left, Accepted, Refused, all_live, FirstFaulty}
use Rattle.trays.proofs.Faults.{none-faulty, found-faulty, first-faulty}

-- ---- the kinds

module _ (t : Table) (w : Withdrawal) where
  -- 0: a vertex
  pub kind_0 : w.kind ≡ 0 → (names_live t w ≡ is_live (live_vertices t) w.number) × (asked w ≡ vertex w.number)
  unfolding names_live asked
  kind_0 k = (rw k, rw k)

  -- 1: a hyperedge
  pub kind_1 : w.kind ≡ 1 → (names_live t w ≡ is_live (live_hyperedges t) w.number) × (asked w ≡ hyperedge w.number)
  unfolding names_live asked
  kind_1 k = (rw k, rw k)

  -- any other is faulty
  pub other-kind : 1 < w.kind → is_faulty t w ≡ true
  unfolding is_faulty names_live
  other-kind h = rw (ne_eqb w.kind 0 (λ e. omega arith), ne_eqb w.kind 1 (λ e. omega arith))

-- ---- 1

-- words that are no table are refused, and nothing changes
pub tray-unformed : (rs : List Withdrawal) (ws : List ℕ) → well_formed limit ws ≡ false → tray rs ws ≡ result_of (Err NotWellFormed) ws
unfolding tray on_formed
tray-unformed rs ws u = rw u

-- ---- 15, or all is carried out

module _ (ws : List ℕ) (formed : well_formed limit ws ≡ true) where
  tray-is : (rs : List Withdrawal) → tray rs ws ≡ tray_result rs ws (read limit ws)
  unfolding tray
  tray-is rs = formed-result ws ws (tray_result rs ws) formed

  -- done, with the words of the closed form
  abbrev closed_form : List Withdrawal → Result
  closed_form rs = result_of (Ok 0) (words limit (withdrawn (map asked rs) (read limit ws)))

  -- where every record names what is live in the table as it stood at the start, the end is that of one removal after the other
  pub live-accepted : (rs : List Withdrawal) → all_live rs ws ≡ true → tray rs ws ≡ result_of (Ok 0) (remove_all (map asked rs) ws)
  unfolding all_live tray_result
  live-accepted rs l =
      let done : tray_result rs ws (read limit ws) ≡ closed_form rs = ap (λ (f : Option ℕ). on_faultless f ws (closed_form rs)) (none-faulty (read limit ws) rs l) in
      tray-is rs ∙ done ∙ ap (λ (s : List ℕ). result_of (Ok 0) s) (sym (removals-words ws formed (map asked rs)))

  -- where record i, counted from 0, is the first faulty one, 15 names i, and nothing changes
  pub faulty-refused : (i : ℕ) (rs : List Withdrawal) → FirstFaulty i rs (read limit ws) → tray rs ws ≡ result_of (Err (BadRecord i)) ws
  unfolding tray_result
  faulty-refused i rs h =
      let refused : tray_result rs ws (read limit ws) ≡ result_of (Err (BadRecord i)) ws = ap (λ (f : Option ℕ). on_faultless f ws (closed_form rs)) (found-faulty (read limit ws) i rs h) in
      tray-is rs ∙ refused

  refused-at : (rs : List Withdrawal) → all_live rs ws ≡ false → (i : ℕ) × FirstFaulty i rs (read limit ws) × (tray rs ws ≡ result_of (Err (BadRecord i)) ws)
  unfolding all_live
  refused-at rs n = let r = first-faulty (read limit ws) rs n in (r.0, r.1, faulty-refused r.0 rs r.1)

  -- only then is it accepted, and only then refused
  pub accepted-live : (rs : List Withdrawal) → Accepted rs ws → all_live rs ws ≡ true
  accepted-live rs a = on (all_live rs ws) (λ l. l)
      (λ n. absurd (let z : ◌≡◌ {A = ℕ} 15 0 = ap (λ (r : Result). r.number) (sym (refused-at rs n).2) ∙ a in omega arith))

  pub refused-faulty : (rs : List Withdrawal) → Refused rs ws → FirstFaulty (tray rs ws).detail rs (read limit ws) × (left rs ws ≡ ws)
  refused-faulty rs f = on (all_live rs ws)
      (λ l. absurd (let z : ◌≡◌ {A = ℕ} 0 15 = ap (λ (r : Result). r.number) (sym (live-accepted rs l)) ∙ f in omega arith))
      (λ n. let r = refused-at rs n in (rw r.2 r.1, ap (λ (r : Result). r.lent) r.2))

  -- all is carried out, or nothing
  pub all-or-none : (rs : List Withdrawal) → (Accepted rs ws × (left rs ws ≡ remove_all (map asked rs) ws)) ⊎ (Refused rs ws × (left rs ws ≡ ws))
  all-or-none rs = on (all_live rs ws)
      (λ l. let e = live-accepted rs l in inl (ap (λ (r : Result). r.number) e, ap (λ (r : Result). r.lent) e))
      (λ n. let e = (refused-at rs n).2 in inr (ap (λ (r : Result). r.number) e, ap (λ (r : Result). r.lent) e))

  -- an empty tray is done, and nothing changes
  pub empty-done : tray [] ws ≡ result_of (Ok 0) ws
  unfolding all_live all remove_all
  empty-done = live-accepted [] refl

  -- whatever it is answered, it leaves what a list of removals leaves
  pub left-removals : (rs : List Withdrawal) → (qs : List Removal) × (left rs ws ≡ remove_all qs ws)
  unfolding remove_all
  left-removals rs = ⊎_elim (λ a. (map asked rs, a.1)) (λ f. ([], f.1)) (all-or-none rs)
