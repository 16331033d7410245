-- `rings::met` meets its contract. Assumes nothing.
use Rattle.rings.proofs.Passed.{met-first, met-here, met-on, met-none}
use borrow.Author.Rules.{rules}
use Rattle.rings.proofs.met.Goals as goal

pub loop-i-init : goal.loop-i-init
loop-i-init c = (search rules, search rules, search met-first)

pub returns-then-wide-y : goal.returns-then-wide-y
returns-then-wide-y c = search met-here

pub loop-i-preserved : goal.loop-i-preserved
loop-i-preserved c = (search rules, search rules, search met-on)

pub returns : goal.returns
returns c = search met-none
