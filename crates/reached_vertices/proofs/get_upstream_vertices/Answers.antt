-- `reached_vertices::get_upstream_vertices` meets its contract. Assumes nothing.
use Rattle.layout.proofs.Answers.{formed-by, on-unformed, on-formed}
use Rattle.reached_vertices.proofs.get_upstream_vertices.Goals as goal

pub returns-then-not-well_formed : goal.returns-then-not-well_formed
returns-then-not-well_formed c = search on-unformed

pub reached_formed-requires : goal.reached_formed-requires
reached_formed-requires c = search formed-by

pub returns : goal.returns
returns c = search on-formed
