-- `degrees::places_at` meets its contract. Assumes nothing.
use Prim.Native.Nat.{◌+◌, ◌<◌}
use lib.ListN.{length}
use native.Mathlib.Omega.{arith}
use Rattle.lookups.proofs.Places.{counted_none, counted-yes, counted-no, counted-end, end-here, end-other}
use borrow.Author.Rules.{rules}
use Rattle.degrees.proofs.places_at.Goals as goal
use Rattle.degrees.proofs.places_at.Goals.{then-ends-v, else-ends-v}

pub loop-i-init : goal.loop-i-init
loop-i-init c = (search rules, counted_none _ _)

pub loop-i-preserved : goal.loop-i-preserved
loop-i-preserved c =
    let h : c.loop-i.i + 1 < length c.args.ms.now = omega arith in (
      omega arith,
      elim c.if-ends-v.branch [ then-ends-v w ↦ counted-yes c.loop-i.invariant.1 h (end-here _ _ _ _ c.ends_at-ends.ensures w.if-ends-v.true) w.n-is | else-ends-v w ↦ counted-no c.loop-i.invariant.1 h (end-other _ _ _ _ c.ends_at-ends.ensures w.if-ends-v.false) w.n-is ],
    )

pub returns : goal.returns
returns c = counted-end c.loop-i.invariant.1 (omega arith)
