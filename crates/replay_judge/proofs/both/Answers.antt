-- `replay_judge::both` meets its contract. Assumes nothing.
use Rattle.replay.proofs.Judging.{both-then, both-else}
use Rattle.replay_judge.proofs.both.Goals as goal

pub returns-then-a : goal.returns-then-a
returns-then-a c = search both-then

pub returns-else-a : goal.returns-else-a
returns-else-a c = search both-else
