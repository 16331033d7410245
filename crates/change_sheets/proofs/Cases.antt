-- The kinds of a change, and a desk that does not fit. Assumes nothing.
use Rattle.std.specs.Prelude.{Err}
use mathlib.Core.Path.{◌≡◌, sym, ◌∙◌}
use mathlib.Core.Bool.{Bool, true, false, not}
use mathlib.Core.List.{List, []}
use Prim.Native.Nat.{ℕ}
use borrow.Author.Tests.{not-true, not-false}
use Rattle.layout.specs.declared.VertexIndex.{VertexIndex}
use Rattle.layout.specs.declared.Refusal.TheVariants.{NotWellFormed}
use Rattle.commands.specs.declared.Change.{Change}
use Rattle.commands.specs.declared.Change.TheVariants.{Tube, Transfer, Relist, WithdrawTubes, WithdrawTransfers, Merge, Review, Release}
use Rattle.desk.specs.Desk.{Desk, desk_of, outcome, desk_fits}
use Rattle.desk.specs.Releases.{on_desk}
use Rattle.desk.proofs.Edits.{edit-unfit}
use Rattle.wording.specs.Pages.{Page, page}
use Rattle.changes.specs.Changes.{changed, Told, told, change_told}

-- ---- r is what `desk_fits` found

changed-unfit : (c : Change) (list : List ℕ) (d : Desk) → desk_fits d ≡ false → changed c list d ≡ outcome (Err NotWellFormed) d
unfolding on_desk
changed-unfit (Tube w) list d u = edit-unfit _ d u
changed-unfit (Transfer w) list d u = edit-unfit _ d u
changed-unfit (Relist e) list d u = edit-unfit _ d u
changed-unfit WithdrawTubes list d u = edit-unfit _ d u
changed-unfit WithdrawTransfers list d u = edit-unfit _ d u
changed-unfit (Merge v w) list d u = edit-unfit _ d u
changed-unfit (Review v) list d u = rw u
changed-unfit Release list d u = rw u

pub fits-by-test : (r : Bool) → not r ≡ false → (ws ss : List ℕ) → r ≡ desk_fits (desk_of ws ss) → desk_fits (desk_of ws ss) ≡ true
fits-by-test r h ws ss e = sym e ∙ not-false r h

pub unfit-told : (ws ss : List ℕ) (r : Bool) → r ≡ desk_fits (desk_of ws ss) → not r ≡ true → (plain : Bool) (c : Change) (list b : List ℕ) (at : ℕ)
    → told (Err NotWellFormed) (desk_of ws ss) b ≡ change_told plain c list (desk_of ws ss) (page b at)
unfolding change_told
unfit-told ws ss r e h plain c list b at = rw (changed-unfit c list (desk_of ws ss) (sym e ∙ not-true r h))

-- ---- the kind is known; a change that takes no list is told of none

module _ (plain : Bool) (c : Change) (list : List ℕ) (d : Desk) (p : Page) (x : Told) where
  pub with-list : (k : Change) → c ≡ k → x ≡ change_told plain k list d p → x ≡ change_told plain c list d p
  with-list k h e = rw h e

  pub as-tube : (w : ℕ) → c ≡ Tube w → x ≡ change_told plain (Tube w) [] d p → x ≡ change_told plain c list d p
  unfolding change_told
  as-tube w h e = rw h e

  pub as-merge : (v w : VertexIndex) → c ≡ Merge v w → x ≡ change_told plain (Merge v w) [] d p → x ≡ change_told plain c list d p
  unfolding change_told
  as-merge v w h e = rw h e

  pub as-review : (v : VertexIndex) → c ≡ Review v → x ≡ change_told plain (Review v) [] d p → x ≡ change_told plain c list d p
  unfolding change_told
  as-review v h e = rw h e
