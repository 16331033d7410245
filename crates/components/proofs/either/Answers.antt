-- `components::either` meets its contract. Assumes nothing.
use borrow.Author.Tests.{eq-eqb, ne_eqb}
use Rattle.components.proofs.either.Goals as goal

pub returns-then-mark-eq1 : goal.returns-then-mark-eq1
returns-then-mark-eq1 c = rw (eq-eqb _ 1 c.if-mark-eq1.true)

pub returns-else-mark-eq1 : goal.returns-else-mark-eq1
returns-else-mark-eq1 c = rw (ne_eqb _ 1 c.if-mark-eq1.false)
