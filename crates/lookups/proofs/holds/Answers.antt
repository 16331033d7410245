-- `lookups::holds` meets its contract. Assumes nothing.
use native.Mathlib.Omega.{arith}
use Rattle.lookups.proofs.Marking.{met-none, met-here, met-on, met-end}
use borrow.Author.Rules.{rules}
use Rattle.lookups.proofs.holds.Goals as goal
use Rattle.lookups.proofs.holds.Goals.{then-ms-i, else-ms-i}

pub loop-i-init : goal.loop-i-init
loop-i-init c = (search rules, met-none _ _)

pub loop-i-preserved : goal.loop-i-preserved
loop-i-preserved c =
    let h = c.loop-i-test.true in (
      omega arith,
      elim c.if-ms-i.branch [ then-ms-i q ↦ met-here c.loop-i.invariant.1 h q.if-ms-i.true q.found-is | else-ms-i q ↦ met-on c.loop-i.invariant.1 h q.if-ms-i.false q.found-is ],
    )

pub returns : goal.returns
returns c = search met-end
