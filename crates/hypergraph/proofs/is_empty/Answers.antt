-- `hypergraph::is_empty` meets its contract. Assumes nothing.
use Rattle.layout.proofs.Answers.{sized-by, on-unformed, on-formed}
use Rattle.edits.proofs.Refusals.{is-empty-yes, is-empty-no}
use Rattle.hypergraph.proofs.is_empty.Goals as goal

pub returns-then-not-well_formed : goal.returns-then-not-well_formed
returns-then-not-well_formed c = search on-unformed

pub vertex_count-requires : goal.vertex_count-requires
vertex_count-requires c = search sized-by

pub returns-then-vertex_count-eq0 : goal.returns-then-vertex_count-eq0
returns-then-vertex_count-eq0 c = search (on-formed, is-empty-yes)

pub returns : goal.returns
returns c = search (on-formed, is-empty-no)
