-- A change refused, and a change done with its sheet written. Assumes nothing.
use Rattle.std.specs.Prelude.{Ok}
use mathlib.Core.Path.{◌≡◌, sym, ap, ◌∙◌}
use mathlib.Core.Bool.{Bool, true, false, not, cond}
use mathlib.Core.List.{List}
use Prim.Native.Nat.{ℕ}
use lib.Dec.{eqb}
use lib.ListN.{length}
use borrow.Author.Tests.{not-true, not-false}
use Rattle.layout.specs.Answers.{Answer}
use Rattle.layout.specs.Layout.{limit, size, next_hyperedge_in}
use Rattle.layout.specs.Answers.{number, detail}
use Rattle.layout.proofs.Read.{formed-of}
use Rattle.calls.specs.Calls.{add_hyperedge}
use Rattle.commands.specs.declared.Change.{Change}
use Rattle.commands.specs.declared.Change.TheVariants.{Transfer}
use Rattle.desk.specs.Desk.{Desk, Outcome, desk_of, outcome, desk_fits, desk_edit}
use Rattle.desk.proofs.Edits.{desk-fits-of}
use Rattle.wording.specs.Pages.{page, write}
use Rattle.entry_sheets.specs.Entries.{number_alone, transfer_said}
use Rattle.changes.specs.Changes.{changed, sheet, told, written, unwritten, change_told}
use Rattle.changes.proofs.Kept.{changed-keeps}

-- the call left d' and answered a; r is what `is_done` found
module _ (plain : Bool) (c : Change) (list : List ℕ) (d : Desk) (a : Answer) (d' : Desk) (e : outcome a d' ≡ changed c list d)
    (r : Bool) (er : r ≡ eqb (number a) 0) (b : List ℕ) (at : ℕ) where
  made : (z : Bool) → eqb (number a) 0 ≡ z
      → change_told plain c list d (page b at)
      ≡ cond z (written d' (write (sheet plain c list d (outcome a d')) (page b at))) (unwritten (outcome a d') d (page b at))
  unfolding change_told
  made z h = rw (← e, h)

  pub change-refused : not r ≡ true → told a d' b ≡ change_told plain c list d (page b at)
  change-refused h =
      let z : eqb (number a) 0 ≡ false = sym er ∙ not-true r h in
      let same : d' ≡ d = ap (λ (o : Outcome). o.desk) e ∙ changed-keeps c list d (ap (λ (o : Outcome). eqb o.number 0) (sym e) ∙ z) in
      ap (λ (x : Desk). told a x b) same ∙ sym (made false z)

  -- the sheet is written on the page b', up to the place n
  pub change-done : not r ≡ false → (b' : List ℕ) (n : ℕ) → page b' n ≡ write (sheet plain c list d (outcome a d')) (page b at)
      → told (Ok n) d' b' ≡ change_told plain c list d (page b at)
  change-done h b' n w = ap (written d') w ∙ sym (made true (sym er ∙ not-false r h))

-- ---- a transfer

pub sized-by-desk : (ws ss : List ℕ) → desk_fits (desk_of ws ss) ≡ true → length ws ≡ size limit
sized-by-desk ws ss h = (formed-of limit ws (desk-fits-of h).formed).shape.sized

-- next is what `next_hyperedge` found before
pub transfer-done : (plain : Bool) (w : ℕ) (list ws ss : List ℕ) (a : Answer) (d' : Desk) (r : Bool) (b : List ℕ) (at : ℕ) (b' : List ℕ) (n next : ℕ)
    → next ≡ next_hyperedge_in ws → outcome a d' ≡ desk_edit (add_hyperedge list w) (desk_of ws ss) → r ≡ eqb (number a) 0 → not r ≡ false
    → page b' n ≡ write (cond plain (number_alone (detail a)) (transfer_said (detail a) next w list)) (page b at)
    → told (Ok n) d' b' ≡ change_told plain (Transfer w) list (desk_of ws ss) (page b at)
transfer-done plain w list ws ss a d' r b at b' n next en e er h x =
    change-done plain (Transfer w) list (desk_of ws ss) a d' e r er b at h b' n (rw (← en) x)
