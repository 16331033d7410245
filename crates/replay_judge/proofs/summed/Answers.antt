-- `replay_judge::summed` meets its contract. Assumes nothing.
use Rattle.replay.proofs.Judging.{summed-there}
use Rattle.replay_judge.proofs.summed.Goals as goal

pub returns : goal.returns
returns c = search summed-there
