-- `intersections::get_hyperedges_intersections` meets its contract. Assumes nothing.
use Rattle.layout.proofs.Answers.{formed-by, on-unformed, on-formed}
use Rattle.intersections.proofs.get_hyperedges_intersections.Goals as goal

pub returns-then-not-well_formed : goal.returns-then-not-well_formed
returns-then-not-well_formed c = search on-unformed

pub list_shared-requires : goal.list_shared-requires
list_shared-requires c = search formed-by

pub returns : goal.returns
returns c = search on-formed
