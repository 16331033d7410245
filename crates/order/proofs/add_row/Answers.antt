-- `order::add_row` meets its contract. Assumes nothing.
use Rattle.order.proofs.Rows.{part-first, part_small, part-added, part_end}
use borrow.Author.Rules.{rules}
use Rattle.order.proofs.add_row.Goals as goal

pub loop-w-init : goal.loop-w-init
loop-w-init c = (search rules, search part-first)

pub more-requires : goal.more-requires
more-requires c = search part_small

pub loop-w-preserved : goal.loop-w-preserved
loop-w-preserved c = (search rules, search part-added)

pub returns : goal.returns
returns c = search part_end
