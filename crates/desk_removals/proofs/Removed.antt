-- Edits through the desk that take a vertex out: the states of the others follow. Assumes nothing.
use mathlib.Core.Path.{◌≡◌, refl}
use mathlib.Core.List.{List}
use Prim.Native.Nat.{ℕ}
use lib.ListN.{take}
use Rattle.lists.specs.Lists.{other_than, itself}
use Rattle.layout.specs.Answers.{Answer}
use Rattle.layout.specs.Inner.{vertex_column}
use Rattle.layout.specs.Answers.{result_of, on_formed}
use Rattle.edits.specs.Results.{remove_vertex_result, merge_result}
use Rattle.removals.specs.Removals.{vertex, removal}
use Rattle.calls.specs.Calls.{merge, remove, edit}
use Rattle.desk.specs.Desk.{desk_of, outcome, desk_edit}
use Rattle.desk.proofs.Edits.{live_after}
use Rattle.desk_states.specs.Following.{Opened, followed, Followable}
use Rattle.desk_states.proofs.Removed.{Removes, edit-removes, opened-left, opened-edited}

vertex-removes : (v : ℕ) (ws : List ℕ) → Removes ws (edit (remove (vertex v)) ws)
unfolding live_after
vertex-removes v ws = edit-removes (remove (vertex v)) ws (other_than itself v) refl

merge-removes : (v w : ℕ) (ws : List ℕ) → Removes ws (edit (merge v w) ws)
unfolding live_after
merge-removes v w ws = edit-removes (merge v w) ws (other_than itself w) refl

-- the edit of the table answered a and left the words left
module _ (ws ss : List ℕ) (n : ℕ) (numbers : List ℕ) (op : Opened ws ss n numbers) (a : Answer) (left : List ℕ) where
  module _ (v : ℕ) (q : result_of a left ≡ on_formed ws ws (remove_vertex_result v ws)) where
    pub vertex-left : Followable a numbers n left ss
    unfolding edit removal
    vertex-left = opened-left ws ss n numbers op a left _ q (vertex-removes v ws)

    pub vertex-removed : (ss' : List ℕ) → ss' ≡ followed a (take n numbers) ss (vertex_column left)
        → outcome a (desk_of left ss') ≡ desk_edit (remove (vertex v)) (desk_of ws ss)
    unfolding desk_edit edit removal
    vertex-removed ss' es = opened-edited ws ss n numbers op a left _ q (vertex-removes v ws) ss' es

  module _ (v w : ℕ) (q : result_of a left ≡ on_formed ws ws (merge_result v w ws)) where
    pub merge-left : Followable a numbers n left ss
    unfolding edit
    merge-left = opened-left ws ss n numbers op a left _ q (merge-removes v w ws)

    pub vertex-merged : (ss' : List ℕ) → ss' ≡ followed a (take n numbers) ss (vertex_column left)
        → outcome a (desk_of left ss') ≡ desk_edit (merge v w) (desk_of ws ss)
    unfolding desk_edit edit
    vertex-merged ss' es = opened-edited ws ss n numbers op a left _ q (merge-removes v w ws) ss' es
