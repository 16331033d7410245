-- `update_hyperedge_vertices::update_hyperedge_vertices` meets its contract. Assumes nothing.
use Rattle.layout.proofs.Answers.{formed-by, on-unformed, on-formed}
use Rattle.update_hyperedge_vertices.proofs.update_hyperedge_vertices.Goals as goal

pub returns-then-not-well_formed : goal.returns-then-not-well_formed
returns-then-not-well_formed c = search on-unformed

pub update_formed-requires : goal.update_formed-requires
update_formed-requires c = search formed-by

pub returns : goal.returns
returns c = search on-formed
