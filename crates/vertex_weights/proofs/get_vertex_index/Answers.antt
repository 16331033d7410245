-- `vertex_weights::get_vertex_index` meets its contract. Assumes nothing.
use Rattle.layout.proofs.Answers.{formed-by, on-unformed, on-formed}
use Rattle.vertex_weights.proofs.get_vertex_index.Goals as goal

pub returns-then-not-well_formed : goal.returns-then-not-well_formed
returns-then-not-well_formed c = search on-unformed

pub list_weighing-requires : goal.list_weighing-requires
list_weighing-requires c = search formed-by

pub returns : goal.returns
returns c = search on-formed
