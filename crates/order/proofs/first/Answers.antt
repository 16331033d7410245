-- `order::first` meets its contract. Assumes nothing.
use Rattle.order.proofs.Blocks.{first-begun, first-found, first-on, first-none}
use borrow.Author.Rules.{rules}
use Rattle.order.proofs.first.Goals as goal

pub loop-j-init : goal.loop-j-init
loop-j-init c = (search rules, search first-begun)

pub returns-then-need-j-eq0 : goal.returns-then-need-j-eq0
returns-then-need-j-eq0 c = search first-found

pub loop-j-preserved : goal.loop-j-preserved
loop-j-preserved c = (search rules, search first-on)

pub returns : goal.returns
returns c = search first-none
