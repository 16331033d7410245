-- `replay::tally::at` meets its contract. Assumes nothing.
use Rattle.replay.proofs.Tallied.{none-there}
use Rattle.replay.proofs.tally.at.Goals as goal

pub returns : goal.returns
returns c = search none-there
