-- `replay_judge::sum` meets its contract. Assumes nothing.
use Rattle.std.proofs.Common.{rules}
use Rattle.replay.proofs.Judging.{sum-none, sum_more, sum-all}
use Rattle.replay_judge.proofs.sum.Goals as goal

pub loop-k-init : goal.loop-k-init
loop-k-init c = (search rules, search sum-none)

pub loop-k-preserved : goal.loop-k-preserved
loop-k-preserved c = (search rules, search sum_more)

pub returns : goal.returns
returns c = search sum-all
