-- `replay::tally::total` meets its contract. Assumes nothing.
use Rattle.std.proofs.Common.{rules}
use Rattle.replay.proofs.Tallied.{total-none, total-more, total-all}
use Rattle.replay.proofs.tally.total.Goals as goal

pub loop-k-init : goal.loop-k-init
loop-k-init c = (search rules, search total-none)

pub loop-k-preserved : goal.loop-k-preserved
loop-k-preserved c = (search rules, search total-more)

pub returns : goal.returns
returns c = search total-all
