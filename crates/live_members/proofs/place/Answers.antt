-- `live_members::place` meets its contract: the steps stay among the 256 numbers. Assumes nothing.
use native.Mathlib.Omega.{arith}
use Rattle.formed.proofs.Judged.{eighth-low}
use Rattle.live_members.proofs.place.Goals as goal
use Rattle.live_members.proofs.place.Goals.{then-numbers-p, else-numbers-p}

pub overflow_mul-p : goal.overflow_mul-p
overflow_mul-p c = omega (arith, eighth-low c.args.eighth)

pub loop-half-init : goal.loop-half-init
loop-half-init c = let h = eighth-low c.args.eighth in (omega arith, omega arith)

pub loop-half-preserved : goal.loop-half-preserved
loop-half-preserved c = elim c.if-numbers-p.branch [ then-numbers-p w ↦ omega arith | else-numbers-p w ↦ omega arith ]
