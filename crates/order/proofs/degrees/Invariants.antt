-- `order::degrees` meets its contract. Assumes nothing.
use Prim.Native.Nat.{◌≤◌}
use Rattle.graph.specs.Reach.{matrix}
use Rattle.order.specs.State.{Degrees}
use Rattle.order.proofs.degrees.Given as goal

abbrev pub invariant-loop-u : goal.invariant-loop-u
invariant-loop-u l = (l.u ≤ l.n) × Degrees (matrix l.adj) l.n l.u l.need
