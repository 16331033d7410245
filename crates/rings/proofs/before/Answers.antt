-- `rings::before` meets its contract. Assumes nothing.
use Rattle.rings.proofs.Back.{before-first, before_here, before_on, before-end}
use borrow.Author.Rules.{rules}
use Rattle.rings.proofs.before.Goals as goal

pub loop-j-init : goal.loop-j-init
loop-j-init c = (search rules, search before-first)

pub returns-then-leads_to : goal.returns-then-leads_to
returns-then-leads_to c = search before_here

pub loop-j-preserved : goal.loop-j-preserved
loop-j-preserved c = (search rules, search before_on)

pub returns : goal.returns
returns c = search before-end
