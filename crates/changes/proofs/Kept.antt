-- A change whose call is refused leaves the desk as it was. Assumes nothing.
use mathlib.Core.Path.{◌≡◌, refl}
use mathlib.Core.Bool.{false}
use mathlib.Core.List.{List}
use Prim.Native.Nat.{ℕ, zero, suc}
use lib.Dec.{eqb}
use Rattle.lists.proofs.Cases.{on, clash}
use Rattle.calls.specs.Calls.{an_edit, add_vertex, add_hyperedge, update, merge, withdraw}
use Rattle.commands.specs.declared.Change.{Change}
use Rattle.commands.specs.declared.Change.TheVariants.{Tube, Transfer, Relist, WithdrawTubes, WithdrawTransfers, Merge, Review, Release}
use Rattle.desk.specs.Desk.{Desk, content, desk_fits}
use Rattle.desk.specs.Releases.{on_desk}
use Rattle.desk.specs.Calls.{DeskCall, through, review, desk_call}
use Rattle.desk_laws.proofs.Fits.{refused-keeps}
use Rattle.desk_numbers.specs.Numbers.{in_turn, all_or_none, release_numbers_result}
use Rattle.changes.specs.Changes.{changed}

call-keeps : (c : DeskCall) (d : Desk) → eqb (desk_call c d).number 0 ≡ false → (desk_call c d).desk ≡ d
call-keeps c d q = by_number_lem (desk_call c d).number refl q
  where
    by_number_lem : (k : ℕ) → (desk_call c d).number ≡ k → eqb k 0 ≡ false → (desk_call c d).desk ≡ d
    by_number_lem zero e z = clash refl z
    by_number_lem (suc n) e z = refused-keeps c d n e

releases-keep : (list : List ℕ) (d : Desk) → eqb (changed Release list d).number 0 ≡ false → (changed Release list d).desk ≡ d
unfolding on_desk release_numbers_result all_or_none
releases-keep list d q =
    on (desk_fits d)
    (λ f. on (eqb (in_turn list d.states (content d)).number 0) (λ z. clash z (rw (f, z) at q)) (λ z. rw (f, z)))
    (λ u. rw u)

pub changed-keeps : (c : Change) (list : List ℕ) (d : Desk) → eqb (changed c list d).number 0 ≡ false → (changed c list d).desk ≡ d
unfolding desk_call
changed-keeps (Tube w) list d q = call-keeps (through (an_edit (add_vertex w))) d q
changed-keeps (Transfer w) list d q = call-keeps (through (an_edit (add_hyperedge list w))) d q
changed-keeps (Relist e) list d q = call-keeps (through (an_edit (update e.0 list))) d q
changed-keeps WithdrawTubes list d q = call-keeps (through (an_edit (withdraw _))) d q
changed-keeps WithdrawTransfers list d q = call-keeps (through (an_edit (withdraw _))) d q
changed-keeps (Merge v w) list d q = call-keeps (through (an_edit (merge v.0 w.0))) d q
changed-keeps (Review v) list d q = call-keeps (review v.0) d q
changed-keeps Release list d q = releases-keep list d q
