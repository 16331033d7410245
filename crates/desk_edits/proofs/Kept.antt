-- Edits through the desk that leave the vertices' records where they are: so do the states. Assumes nothing.
use mathlib.Core.Path.{◌≡◌, sym, ap, ◌∙◌}
use mathlib.Core.Bool.{Bool, true, false, not}
use mathlib.Core.List.{List}
use Prim.Native.Nat.{ℕ}
use borrow.Author.Tests.{not-false}
use Rattle.lists.proofs.Cases.{on}
use Rattle.layout.specs.Answers.{Answer}
use Rattle.layout.specs.Layout.{limit}
use Rattle.layout.specs.WellFormed.{well_formed}
use Rattle.layout.specs.Answers.{Result, result_of, on_formed}
use Rattle.edits.specs.Results.{add_vertex_result, add_hyperedge_result, update_result, remove_hyperedge_result}
use Rattle.removals.specs.Removals.{hyperedge, removal}
use Rattle.calls.specs.Calls.{Edit, add_vertex, add_hyperedge, update, remove, edit}
use Rattle.desk.specs.Desk.{desk_of, outcome, answering, desk_fits, desk_edit}
use Rattle.desk.proofs.Edits.{StatesStay, edit-unformed, edit-unfit, add-vertex-stays, add-hyperedge-stays, update-stays, remove-hyperedge-stays}
use Rattle.desk_states.specs.Open.{is_open}
use Rattle.desk_states.proofs.Open.{open-fits, unformed-unfit}

-- b is what `is_open` found, and the code tested `!b`; the edit of the table answered a and left the words left
module _ (ws ss : List ℕ) (b : Bool) (eb : b ≡ is_open (desk_of ws ss)) (hb : not b ≡ false) (a : Answer) (left : List ℕ) where
  stays : (e : Edit) → (desk_fits (desk_of ws ss) ≡ true → StatesStay e (desk_of ws ss))
      → result_of a left ≡ edit e ws → outcome a (desk_of left ss) ≡ desk_edit e (desk_of ws ss)
  stays e stay q =
      on (well_formed limit ws)
      (λ f. ap (λ (r : Result). answering r (desk_of r.lent ss)) q ∙ sym (stay (open-fits (desk_of ws ss) (sym eb ∙ not-false b hb) f)))
      (λ u. ap (λ (r : Result). answering r (desk_of r.lent ss)) (q ∙ edit-unformed e ws u) ∙ sym (edit-unfit e (desk_of ws ss) (unformed-unfit (desk_of ws ss) u)))

  pub vertex-added : (w : ℕ) → result_of a left ≡ on_formed ws ws (add_vertex_result w ws) → outcome a (desk_of left ss) ≡ desk_edit (add_vertex w) (desk_of ws ss)
  unfolding edit
  vertex-added w q = stays (add_vertex w) (λ f. add-vertex-stays (desk_of ws ss) f w) q

  pub hyperedge-added : (ms : List ℕ) (w : ℕ) → result_of a left ≡ on_formed ws ws (add_hyperedge_result ms w ws)
      → outcome a (desk_of left ss) ≡ desk_edit (add_hyperedge ms w) (desk_of ws ss)
  unfolding edit
  hyperedge-added ms w q = stays (add_hyperedge ms w) (λ f. add-hyperedge-stays (desk_of ws ss) f ms w) q

  pub hyperedge-updated : (x : ℕ) (ms : List ℕ) → result_of a left ≡ on_formed ws ws (update_result x ms ws)
      → outcome a (desk_of left ss) ≡ desk_edit (update x ms) (desk_of ws ss)
  unfolding edit
  hyperedge-updated x ms q = stays (update x ms) (λ f. update-stays (desk_of ws ss) f x ms) q

  pub hyperedge-removed : (x : ℕ) → result_of a left ≡ on_formed ws ws (remove_hyperedge_result x ws)
      → outcome a (desk_of left ss) ≡ desk_edit (remove (hyperedge x)) (desk_of ws ss)
  unfolding edit removal
  hyperedge-removed x q = stays (remove (hyperedge x)) (λ f. remove-hyperedge-stays (desk_of ws ss) f x) q
