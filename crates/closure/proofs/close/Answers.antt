-- `closure::close` meets its contract. Assumes nothing.
use Rattle.graph.specs.Reach.{matrix}
use Rattle.closure.proofs.Closing.{closure-first, closure-more}
use Rattle.closure.specs.State.{Closure}
use native.Mathlib.Omega.{arith}
use mathlib.Core.Path.{subst}
use Prim.Native.Nat.{ℕ}
use native.Mathlib.Nat.{le_antisymm}
use Rattle.closure.proofs.close.Goals as goal

pub loop-x-init : goal.loop-x-init
loop-x-init c = (omega arith, closure-first c.requires.1)

pub marks_from-requires : goal.marks_from-requires
marks_from-requires c = (c.requires.0, c.loop-x-test.true)

pub copy_row-requires : goal.copy_row-requires
copy_row-requires c = (c.requires.0, omega (arith, c.requires.0), c.loop-x.invariant.1.long)

pub loop-x-preserved : goal.loop-x-preserved
loop-x-preserved c = (omega arith, closure-more c.requires.0 c.loop-x.invariant.1 c.marks_from.ensures c.copy_row.ensures)

pub returns : goal.returns
returns c =
    subst (λ (i : ℕ). Closure (matrix c.args.adj.now) c.args.n i c.loop-x.c) (le_antisymm c.loop-x.invariant.0 c.loop-x-test.false) c.loop-x.invariant.1
