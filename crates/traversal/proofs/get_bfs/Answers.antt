-- `traversal::get_bfs` meets its contract. Assumes nothing.
use Rattle.layout.proofs.Answers.{on-unformed, formed-by, on-formed}
use Rattle.traversal.proofs.get_bfs.Goals as goal

pub returns-then-not-well_formed : goal.returns-then-not-well_formed
returns-then-not-well_formed c = search on-unformed

pub traverse-requires : goal.traverse-requires
traverse-requires c = search formed-by

pub returns : goal.returns
returns c = search on-formed
