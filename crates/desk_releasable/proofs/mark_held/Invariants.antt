-- `desk_releasable::mark_held` meets its contract. Assumes nothing.
use Prim.Native.Nat.{◌≤◌}
use Rattle.graph.specs.Reach.{matrix}
use Rattle.desk_looks.specs.Held.{Held}
use Rattle.desk_releasable.proofs.mark_held.Given as goal

abbrev pub invariant-loop-u : goal.invariant-loop-u
invariant-loop-u l = (l.u ≤ l.n) × Held (matrix l.m) l.s l.u l.held
