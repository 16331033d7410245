-- `random_walk::random_walk` meets its contract. Assumes nothing.
use Rattle.layout.proofs.Answers.{formed-by, on-unformed, on-formed}
use Rattle.random_walk.proofs.random_walk.Goals as goal

pub returns-then-not-well_formed : goal.returns-then-not-well_formed
returns-then-not-well_formed c = search on-unformed

pub walk_formed-requires : goal.walk_formed-requires
walk_formed-requires c = search formed-by

pub returns : goal.returns
returns c = search on-formed
