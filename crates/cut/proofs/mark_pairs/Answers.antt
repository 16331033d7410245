-- `cut::mark_pairs` meets its contract: the first i places with each. Assumes nothing.
use native.Mathlib.Omega.{arith}
use Rattle.cut.proofs.Gathering.{places-at, pairs-none, pairs-more, pairs_end}
use borrow.Author.Rules.{rules}
use Rattle.cut.proofs.mark_pairs.Goals as goal

pub loop-i-init : goal.loop-i-init
loop-i-init c = (search rules, search pairs-none)

pub overflow_cast-places : goal.overflow_cast-places
overflow_cast-places c = omega (arith, places-at c.requires c.loop-i.i c.loop-i-test.true)

pub mark_row-requires : goal.mark_row-requires
mark_row-requires c = (places-at c.requires c.loop-i.i c.loop-i-test.true, search rules)

pub loop-i-preserved : goal.loop-i-preserved
loop-i-preserved c = (search rules, search pairs-more)

pub returns : goal.returns
returns c = search pairs_end
