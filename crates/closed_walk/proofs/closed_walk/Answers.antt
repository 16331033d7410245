-- `closed_walk::closed_walk` meets its contract. Assumes nothing.
use Rattle.layout.proofs.Answers.{on-unformed, formed-by, on-formed}
use Rattle.closed_walk.proofs.closed_walk.Goals as goal

pub returns-then-not-well_formed : goal.returns-then-not-well_formed
returns-then-not-well_formed c = search on-unformed

pub list_walk-requires : goal.list_walk-requires
list_walk-requires c = search formed-by

pub returns : goal.returns
returns c = search on-formed
