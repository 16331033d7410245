-- `replay_judge::word_of` meets its contract. Assumes nothing.
use Rattle.replay.proofs.Tallied.{none-there}
use Rattle.replay_judge.proofs.word_of.Goals as goal

pub returns : goal.returns
returns c = search none-there
