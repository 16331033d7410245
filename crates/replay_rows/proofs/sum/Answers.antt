-- `replay_rows::sum` meets its contract. Assumes nothing.
use Rattle.std.proofs.Common.{rules}
use Rattle.replay.proofs.AnyOrder.{rows_none, rows_more, rows_all}
use Rattle.replay_rows.proofs.sum.Goals as goal

pub loop-k-init : goal.loop-k-init
loop-k-init c = (search rules, search rows_none)

pub loop-k-preserved : goal.loop-k-preserved
loop-k-preserved c = (search rules, search rows_more)

pub returns : goal.returns
returns c = search rows_all
