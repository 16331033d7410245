-- `cut::mark_row` meets its contract: the first i places. Assumes nothing.
use native.Mathlib.Omega.{arith}
use Rattle.cut.proofs.Gathering.{places-at, row-none, row_more, row-end}
use borrow.Author.Rules.{rules}
use Rattle.cut.proofs.mark_row.Goals as goal

pub loop-i-init : goal.loop-i-init
loop-i-init c = (search rules, search row-none)

pub overflow_cast-m : goal.overflow_cast-m
overflow_cast-m c = omega (arith, places-at c.requires.1 c.loop-i.i c.loop-i-test.true)

pub overflow_add-m : goal.overflow_add-m
overflow_add-m c = omega (arith, places-at c.requires.1 c.loop-i.i c.loop-i-test.true)

pub bounds-m-a : goal.bounds-m-a
bounds-m-a c = omega (arith, places-at c.requires.1 c.loop-i.i c.loop-i-test.true)

pub loop-i-preserved : goal.loop-i-preserved
loop-i-preserved c = (search rules, search row_more)

pub returns : goal.returns
returns c = search row-end
