-- `closure::copy_row` meets its contract. Assumes nothing.
use Rattle.closure.specs.State.{Copied}
use Prim.Native.Nat.{◌≤◌}
use Rattle.closure.proofs.copy_row.Given as goal

abbrev pub invariant-loop-v : goal.invariant-loop-v
invariant-loop-v l = (l.v ≤ l.n) × Copied l.x l.v l.marks l.initial.c l.c
