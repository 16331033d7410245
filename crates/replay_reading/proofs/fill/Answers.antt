-- `replay_reading::fill` meets its contract. Assumes nothing.
use Rattle.replay.proofs.Bytes.{after_none, after_more, after-all, filled_none, filled_more, filled-all}
use borrow.Author.Rules.{rules}
use Rattle.replay_reading.proofs.fill.Goals as goal

pub loop-k-init : goal.loop-k-init
loop-k-init c = (search rules, search rules, search rules, search after_none, search filled_none)

pub loop-k-preserved : goal.loop-k-preserved
loop-k-preserved c = (search rules, search rules, search rules, search after_more, search filled_more)

pub returns : goal.returns
returns c = (search after-all, search filled-all)
