-- `order::none_free` meets its contract. Assumes nothing.
use Rattle.order.proofs.Blocks.{block-first, block_more, block-end}
use borrow.Author.Rules.{rules}
use Rattle.order.proofs.none_free.Goals as goal

pub loop-i-init : goal.loop-i-init
loop-i-init c = (search rules, search block-first)

pub loop-i-preserved : goal.loop-i-preserved
loop-i-preserved c = (search rules, search block_more)

pub returns : goal.returns
returns c = search block-end
