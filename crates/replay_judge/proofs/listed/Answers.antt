-- `replay_judge::listed` meets its contract. Assumes nothing.
use Rattle.replay.proofs.Judging.{listed-long, listed-short}
use Rattle.replay_judge.proofs.listed.Goals as goal

pub returns-then-n-gt-LONG : goal.returns-then-n-gt-LONG
returns-then-n-gt-LONG c = search listed-long

pub returns : goal.returns
returns c = search listed-short
