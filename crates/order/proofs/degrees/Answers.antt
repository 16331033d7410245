-- `order::degrees` meets its contract. Assumes nothing.
use Rattle.order.proofs.State.{degrees-more, degrees-end}
use borrow.Author.Rules.{rules}
use Rattle.order.proofs.degrees.Goals as goal

pub loop-u-preserved : goal.loop-u-preserved
loop-u-preserved c = (search rules, search degrees-more)

pub returns : goal.returns
returns c = search degrees-end
