-- `rings::lowest` meets its contract. Assumes nothing.
use Rattle.rings.proofs.Back.{lowest-first, lowest-here, lowest-on, lowest-end}
use borrow.Author.Rules.{rules}
use Rattle.rings.proofs.lowest.Goals as goal

pub loop-x-init : goal.loop-x-init
loop-x-init c = (search rules, search lowest-first)

pub returns-then-comes_back : goal.returns-then-comes_back
returns-then-comes_back c = search lowest-here

pub loop-x-preserved : goal.loop-x-preserved
loop-x-preserved c = (search rules, search lowest-on)

pub returns : goal.returns
returns c = search lowest-end
