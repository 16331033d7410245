-- `merge_vertices::merge_vertices` meets its contract. Assumes nothing.
use Rattle.layout.proofs.Answers.{formed-by, on-unformed, on-formed}
use Rattle.merge_vertices.proofs.merge_vertices.Goals as goal

pub returns-then-not-well_formed : goal.returns-then-not-well_formed
returns-then-not-well_formed c = search on-unformed

pub merge_formed-requires : goal.merge_formed-requires
merge_formed-requires c = search formed-by

pub returns : goal.returns
returns c = search on-formed
