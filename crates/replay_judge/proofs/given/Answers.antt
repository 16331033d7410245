-- `replay_judge::given` meets its contract. Assumes nothing.
use Rattle.replay.proofs.Judging.{given-short, given-long}
use Rattle.replay_judge.proofs.given.Goals as goal

pub returns-then-first-lt240 : goal.returns-then-first-lt240
returns-then-first-lt240 c = search given-short

pub returns : goal.returns
returns c = search given-long
