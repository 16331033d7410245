-- `replay_judge::sum_of_bytes` meets its contract. Assumes nothing.
use Rattle.std.proofs.Common.{rules}
use Rattle.replay.proofs.Judging.{sum-none, sum-byte, sum-all}
use Rattle.replay_judge.proofs.sum_of_bytes.Goals as goal

pub loop-k-init : goal.loop-k-init
loop-k-init c = (search rules, search sum-none)

pub loop-k-preserved : goal.loop-k-preserved
loop-k-preserved c = (search rules, search sum-byte)

pub returns : goal.returns
returns c = search sum-all
