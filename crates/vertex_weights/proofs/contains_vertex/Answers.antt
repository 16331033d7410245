-- `vertex_weights::contains_vertex` meets its contract. Assumes nothing.
use Rattle.layout.proofs.Answers.{formed-by, on-unformed, on-formed}
use Rattle.vertex_weights.proofs.contains_vertex.Goals as goal

pub returns-then-not-well_formed : goal.returns-then-not-well_formed
returns-then-not-well_formed c = search on-unformed

pub contains_formed-requires : goal.contains_formed-requires
contains_formed-requires c = search formed-by

pub returns : goal.returns
returns c = search on-formed
