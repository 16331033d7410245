-- `add_hyperedge::add_hyperedge` meets its contract. Assumes nothing.
use Rattle.layout.proofs.Answers.{formed-by, on-unformed, on-formed}
use Rattle.add_hyperedge.proofs.add_hyperedge.Goals as goal

pub returns-then-not-well_formed : goal.returns-then-not-well_formed
returns-then-not-well_formed c = search on-unformed

pub add_formed-requires : goal.add_formed-requires
add_formed-requires c = search formed-by

pub returns : goal.returns
returns c = search on-formed
