-- A tray whose records are all of one kind, judged number by number. Assumes nothing.
use mathlib.Core.Path.{◌≡◌, refl, sym, ap, subst, ◌∙◌}
use mathlib.Core.List.{List, [], ◌∷◌, map}
use Prim.Native.Nat.{ℕ, zero, suc, ◌+◌, ◌≤◌, ◌<◌}
use native.Mathlib.Nat.{le_of_suc-le-suc, not-suc-le-zero}
use lib.ListN.{length, get_or, take, length-map}
use lib.Seq.{take_all}
use Rattle.trays.specs.Outcomes.{no_record}
use Rattle.tray_marks.specs.declared.Tray.{Tray}
use Rattle.tray_marks.specs.Marking.{OpenFormed, opened, judged, tray_of}
use Rattle.tray_marks.proofs.Marking.{tray-none, tray-more, tray-formed}
use Rattle.calls.specs.Calls.{withdraw}
use Rattle.withdraw_tray.specs.Carried.{carried_out}
use Rattle.desk.specs.Desk.{Outcome, desk_of, edited, desk_edit}
use Rattle.desk_tray.specs.Judged.{Judged}
use Rattle.desk_tray.proofs.Carried.{tray-edited}
use Rattle.desk_numbers.specs.Numbers.{of_kind}

record-at : (kind : ℕ) (ns : List ℕ) (i : ℕ) → i < length ns → get_or (map (of_kind kind) ns) i no_record ≡ of_kind kind (get_or ns i 0)
record-at kind [] i h = absurd (not-suc-le-zero h)
record-at kind (n ∷ ns) zero h = refl
record-at kind (n ∷ ns) (suc i) h = record-at kind ns i (le_of_suc-le-suc h)

-- ---- the loop: the tray is what the first i numbers make of it

module _ (ws : List ℕ) (kind : ℕ) (ns : List ℕ) (tray : Tray) where
  -- `open_tray` returned the tray
  pub judged-first : tray ≡ opened ws → tray ≡ tray_of ws (take 0 (map (of_kind kind) ns))
  judged-first e = e ∙ sym (tray-none ws (map (of_kind kind) ns))

  module _ (i : ℕ) (inv : tray ≡ tray_of ws (take i (map (of_kind kind) ns))) where
    pub judged-open : OpenFormed tray ws
    judged-open = subst (λ (d : Tray). OpenFormed d ws) (sym inv) (tray-formed ws (take i (map (of_kind kind) ns)))

    -- `judge_record` returned next
    pub judged-more : i < length ns → (next : Tray) → next ≡ judged ws tray i (record { kind = kind; number = get_or ns i 0 })
        → next ≡ tray_of ws (take (i + 1) (map (of_kind kind) ns))
    unfolding of_kind
    judged-more h next e =
        e ∙ ap (λ (d : Tray). judged ws d i (of_kind kind (get_or ns i 0))) inv
        ∙ ap (judged ws (tray_of ws (take i (map (of_kind kind) ns))) i) (sym (record-at kind ns i h))
        ∙ sym (tray-more ws (map (of_kind kind) ns) i (rw length-map h))

    pub judged-all : length ns ≤ i → tray ≡ tray_of ws (map (of_kind kind) ns)
    judged-all h = inv ∙ ap (tray_of ws) (take_all i (map (of_kind kind) ns) (rw length-map h))

-- ---- carried out at the desk: `judge_numbers` returned the tray

module _ (ws : List ℕ) (kind : ℕ) (ns : List ℕ) (tray : Tray) (e : tray ≡ tray_of ws (map (of_kind kind) ns)) where
  pub numbers-judged : Judged tray ws
  numbers-judged = record { records = map (of_kind kind) ns; judged = e }

  pub numbers-withdrawn : (ss : List ℕ) (x : Outcome) → x ≡ edited (carried_out tray ws) (desk_of ws ss)
      → x ≡ desk_edit (withdraw (map (of_kind kind) ns)) (desk_of ws ss)
  numbers-withdrawn ss x q = q ∙ ap (λ (d : Tray). edited (carried_out d ws) (desk_of ws ss)) e ∙ tray-edited ws ss (map (of_kind kind) ns)
