-- `remove_hyperedge::remove_hyperedge` meets its contract. Assumes nothing.
use Rattle.layout.proofs.Answers.{formed-by, on-unformed, on-formed}
use Rattle.remove_hyperedge.proofs.remove_hyperedge.Goals as goal

pub returns-then-not-well_formed : goal.returns-then-not-well_formed
returns-then-not-well_formed c = search on-unformed

pub remove_formed-requires : goal.remove_formed-requires
remove_formed-requires c = search formed-by

pub returns : goal.returns
returns c = search on-formed
