-- `closure::copy_row` meets its contract. Assumes nothing.
use Rattle.closure.proofs.Closing.{copied-first, copied_more}
use Rattle.closure.specs.State.{Copied}
use native.Mathlib.Omega.{arith}
use mathlib.Core.Path.{subst}
use Prim.Native.Nat.{ℕ}
use native.Mathlib.Nat.{le_antisymm}
use Rattle.closure.proofs.copy_row.Goals as goal

pub loop-v-init : goal.loop-v-init
loop-v-init c = (omega arith, copied-first c.requires.2)

pub bounds-marks-v : goal.bounds-marks-v
bounds-marks-v c = omega arith

pub overflow_mul-c : goal.overflow_mul-c
overflow_mul-c c = omega arith

pub overflow_add-c : goal.overflow_add-c
overflow_add-c c = omega arith

pub bounds-c-x : goal.bounds-c-x
bounds-c-x c = omega arith

pub loop-v-preserved : goal.loop-v-preserved
loop-v-preserved c = (omega arith, copied_more c.loop-v.invariant.1 (omega arith) (omega arith))

pub returns : goal.returns
returns c =
    subst (λ (i : ℕ). Copied c.args.x i c.args.marks.now c.args.c.now c.loop-v.c) (le_antisymm c.loop-v.invariant.0 c.loop-v-test.false) c.loop-v.invariant.1
