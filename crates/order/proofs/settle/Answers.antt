-- `order::settle` meets its contract. Assumes nothing.
use Rattle.order.proofs.Rows.{part-first, part-owed, part-taken, part_end}
use borrow.Author.Rules.{rules}
use Rattle.order.proofs.settle.Goals as goal

pub loop-w-init : goal.loop-w-init
loop-w-init c = (search rules, search part-first)

pub less-requires : goal.less-requires
less-requires c = search part-owed

pub loop-w-preserved : goal.loop-w-preserved
loop-w-preserved c = (search rules, search part-taken)

pub returns : goal.returns
returns c = search part_end
