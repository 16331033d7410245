-- `adjacent::get_adjacent_vertices_to` meets its contract. Assumes nothing.
use Rattle.layout.proofs.Answers.{formed-by, on-unformed, on-formed}
use Rattle.adjacent.proofs.get_adjacent_vertices_to.Goals as goal

pub returns-then-not-well_formed : goal.returns-then-not-well_formed
returns-then-not-well_formed c = search on-unformed

pub list_related-requires : goal.list_related-requires
list_related-requires c = search formed-by

pub returns : goal.returns
returns c = search on-formed
