-- `desk_order::meets` meets its contract. Assumes nothing.
use Rattle.desk_order.proofs.Placing.{meets-first, meets-more, meets-end}
use borrow.Author.Rules.{rules}
use Rattle.desk_order.proofs.meets.Goals as goal

pub loop-j-init : goal.loop-j-init
loop-j-init c = (search rules, search meets-first)

pub loop-j-preserved : goal.loop-j-preserved
loop-j-preserved c = (search rules, search meets-more)

pub returns : goal.returns
returns c = search meets-end
