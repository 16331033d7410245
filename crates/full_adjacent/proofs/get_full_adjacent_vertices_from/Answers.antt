-- `full_adjacent::get_full_adjacent_vertices_from` meets its contract. Assumes nothing.
use Rattle.layout.proofs.Answers.{formed-by, on-unformed, on-formed}
use Rattle.full_adjacent.proofs.get_full_adjacent_vertices_from.Goals as goal

pub returns-then-not-well_formed : goal.returns-then-not-well_formed
returns-then-not-well_formed c = search on-unformed

pub list_full_adjacent-requires : goal.list_full_adjacent-requires
list_full_adjacent-requires c = search formed-by

pub returns : goal.returns
returns c = search on-formed
