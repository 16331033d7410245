-- `order::less` meets its contract. Assumes nothing.
use borrow.Author.Tests.{eq-eqb, ne_eqb}
use native.Mathlib.Omega.{arith}
use mathlib.Core.Path.{ap}
use Rattle.lists.specs.Tests.{bit}
use Rattle.order.proofs.less.Goals as goal

pub overflow_sub-result : goal.overflow_sub-result
overflow_sub-result c = omega (arith, c.requires (eq-eqb _ 1 c.if-mark-eq1.true))

pub returns-then-mark-eq1 : goal.returns-then-mark-eq1
returns-then-mark-eq1 c = omega (arith, ap bit (eq-eqb _ 1 c.if-mark-eq1.true), c.requires (eq-eqb _ 1 c.if-mark-eq1.true))

pub returns-else-mark-eq1 : goal.returns-else-mark-eq1
returns-else-mark-eq1 c = omega (arith, ap bit (ne_eqb _ 1 c.if-mark-eq1.false))
