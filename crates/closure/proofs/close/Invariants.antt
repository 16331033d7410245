-- `closure::close` meets its contract. Assumes nothing.
use Rattle.graph.specs.Reach.{matrix}
use Rattle.closure.specs.State.{Closure}
use Prim.Native.Nat.{◌≤◌}
use Rattle.closure.proofs.close.Given as goal

abbrev pub invariant-loop-x : goal.invariant-loop-x
invariant-loop-x l = (l.x ≤ l.n) × Closure (matrix l.adj) l.n l.x l.c
