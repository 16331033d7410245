-- `replay_judge::same_reply` meets its contract. Assumes nothing.
use Rattle.replay.proofs.Judging.{same_number, another-number}
use Rattle.replay_judge.proofs.same_reply.Goals as goal

pub returns-then-r-g : goal.returns-then-r-g
returns-then-r-g c = search same_number

pub returns-else-r-g : goal.returns-else-r-g
returns-else-r-g c = search another-number
