-- `traversal::is_reachable` meets its contract. Assumes nothing.
use Rattle.layout.proofs.Answers.{on-unformed, formed-by, on-formed}
use Rattle.traversal.proofs.is_reachable.Goals as goal

pub returns-then-not-well_formed : goal.returns-then-not-well_formed
returns-then-not-well_formed c = search on-unformed

pub reachable-requires : goal.reachable-requires
reachable-requires c = search formed-by

pub returns : goal.returns
returns c = search on-formed
