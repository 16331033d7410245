-- `order::more` meets its contract. Assumes nothing.
use borrow.Author.Tests.{eq-eqb, ne_eqb}
use native.Mathlib.Omega.{arith}
use mathlib.Core.Path.{ap}
use Rattle.lists.specs.Tests.{bit}
use Rattle.order.proofs.more.Goals as goal

pub returns-then-mark-eq1 : goal.returns-then-mark-eq1
returns-then-mark-eq1 c = omega (arith, ap bit (eq-eqb _ 1 c.if-mark-eq1.true))

pub returns-else-mark-eq1 : goal.returns-else-mark-eq1
returns-else-mark-eq1 c = omega (arith, ap bit (ne_eqb _ 1 c.if-mark-eq1.false))
