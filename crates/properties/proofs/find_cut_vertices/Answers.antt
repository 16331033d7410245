-- `properties::find_cut_vertices` meets its contract. Assumes nothing.
use Rattle.layout.proofs.Answers.{on-unformed, formed-by, on-formed}
use Rattle.properties.proofs.find_cut_vertices.Goals as goal

pub returns-then-not-well_formed : goal.returns-then-not-well_formed
returns-then-not-well_formed c = search on-unformed

pub cut_vertices_formed-requires : goal.cut_vertices_formed-requires
cut_vertices_formed-requires c = search formed-by

pub returns : goal.returns
returns c = search on-formed
