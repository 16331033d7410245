-- `add_vertex::add_vertex` meets its contract. Assumes nothing.
use Rattle.layout.proofs.Answers.{formed-by, on-unformed, on-formed}
use Rattle.add_vertex.proofs.add_vertex.Goals as goal

pub returns-then-not-well_formed : goal.returns-then-not-well_formed
returns-then-not-well_formed c = search on-unformed

pub add_formed-requires : goal.add_formed-requires
add_formed-requires c = search formed-by

pub returns : goal.returns
returns c = search on-formed
