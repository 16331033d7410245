-- `order::left` meets its contract. Assumes nothing.
use Rattle.order.proofs.Blocks.{left-first, left-pass}
use borrow.Author.Rules.{rules}
use Rattle.order.proofs.left.Goals as goal

pub loop-k-init : goal.loop-k-init
loop-k-init c = (search rules, search left-first)

pub loop-k-preserved : goal.loop-k-preserved
loop-k-preserved c = (search rules, search left-pass)
