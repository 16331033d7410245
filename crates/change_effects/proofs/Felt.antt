-- The tables before and after an edit, and the sheet of what it did. Assumes nothing.
use Rattle.std.specs.Prelude.{Ok}
use mathlib.Core.Path.{◌≡◌, sym, ap, subst, ◌∙◌}
use mathlib.Core.Bool.{Bool, true, false, not, cond}
use mathlib.Core.List.{List, [], map}
use Prim.Native.Nat.{ℕ}
use lib.Dec.{eqb}
use Rattle.layout.specs.declared.VertexIndex.{VertexIndex}
use Rattle.layout.specs.Answers.{Answer}
use Rattle.layout.specs.Layout.{limit, read}
use Rattle.layout.specs.WellFormed.{well_formed}
use Rattle.layout.specs.Inner.{Formed}
use Rattle.layout.specs.Answers.{number}
use Rattle.layout.proofs.Read.{formed-of}
use Rattle.trays.specs.Trays.{vertex_kind}
use Rattle.calls.specs.Calls.{Edit, merge, withdraw, edit}
use Rattle.commands.specs.declared.Change.TheVariants.{WithdrawTubes, Merge}
use Rattle.desk.specs.Desk.{Outcome, desk_of, outcome, desk_fits, following, desk_edit}
use Rattle.desk.proofs.Edits.{desk-fits-of, edit-formed, edit-fitting}
use Rattle.desk_numbers.specs.Numbers.{of_kind}
use Rattle.wording.specs.Pages.{page, write}
use Rattle.effect_sheets.specs.Effects.{tubes_said, merged_said}
use Rattle.changes.specs.Changes.{told, change_told}
use Rattle.changes.proofs.Told.{change-done}

-- `copy_of` returned the words before
module _ (ws ss before : List ℕ) (copy : before ≡ ws) where
  pub before-formed : desk_fits (desk_of ws ss) ≡ true → Formed limit before
  before-formed h = subst (Formed limit) (sym copy) (formed-of limit ws (desk-fits-of h).formed)

  -- the call left the words ws' and the states ss', and answered a; r is what `is_done` found
  module _ (a : Answer) (ws' ss' : List ℕ) where
    pub after-formed : (e : Edit) → desk_fits (desk_of ws ss) ≡ true → outcome a (desk_of ws' ss') ≡ desk_edit e (desk_of ws ss) → Formed limit ws'
    unfolding following
    after-formed e h q =
        let table : ws' ≡ (edit e ws).lent = ap (λ (o : Outcome). o.desk.table) (q ∙ edit-fitting (desk_of ws ss) h e) in
        formed-of limit ws' (ap (well_formed limit) table ∙ edit-formed ws (desk-fits-of h).formed e)

    module _ (plain r : Bool) (er : r ≡ eqb (number a) 0) (h : not r ≡ false) (b : List ℕ) (at : ℕ) (b' : List ℕ) (n : ℕ) where
      pub tubes-done : (list : List ℕ) → outcome a (desk_of ws' ss') ≡ desk_edit (withdraw (map (of_kind vertex_kind) list)) (desk_of ws ss)
          → page b' n ≡ write (cond plain [] (tubes_said list (read limit before) (read limit ws'))) (page b at)
          → told (Ok n) (desk_of ws' ss') b' ≡ change_told plain WithdrawTubes list (desk_of ws ss) (page b at)
      tubes-done list e x =
          change-done plain WithdrawTubes list (desk_of ws ss) a (desk_of ws' ss') e r er b at h b' n
          (x ∙ ap (λ (us : List ℕ). write (cond plain [] (tubes_said list (read limit us) (read limit ws'))) (page b at)) copy)

      pub merge-done : (v w : VertexIndex) → outcome a (desk_of ws' ss') ≡ desk_edit (merge v.0 w.0) (desk_of ws ss)
          → page b' n ≡ write (cond plain [] (merged_said v.0 w.0 (read limit before) (read limit ws'))) (page b at)
          → told (Ok n) (desk_of ws' ss') b' ≡ change_told plain (Merge v w) [] (desk_of ws ss) (page b at)
      merge-done v w e x =
          change-done plain (Merge v w) [] (desk_of ws ss) a (desk_of ws' ss') e r er b at h b' n
          (x ∙ ap (λ (us : List ℕ). write (cond plain [] (merged_said v.0 w.0 (read limit us) (read limit ws'))) (page b at)) copy)
