-- `rings::to_front` meets its contract. Assumes nothing.
use Rattle.rings.proofs.Going.{copied-first, copied_more, copied-end}
use borrow.Author.Rules.{rules}
use Rattle.rings.proofs.to_front.Goals as goal

pub loop-j-init : goal.loop-j-init
loop-j-init c = (search rules, search copied-first)

pub loop-j-preserved : goal.loop-j-preserved
loop-j-preserved c = (search rules, search copied_more)

pub returns : goal.returns
returns c = search copied-end
