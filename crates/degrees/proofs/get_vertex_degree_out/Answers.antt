-- `degrees::get_vertex_degree_out` meets its contract. Assumes nothing.
use Rattle.layout.proofs.Answers.{formed-by, on-unformed, on-formed}
use Rattle.degrees.proofs.get_vertex_degree_out.Goals as goal

pub returns-then-not-well_formed : goal.returns-then-not-well_formed
returns-then-not-well_formed c = search on-unformed

pub degree_of-requires : goal.degree_of-requires
degree_of-requires c = search formed-by

pub returns : goal.returns
returns c = search on-formed
