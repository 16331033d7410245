-- `order::settle` meets its contract. Assumes nothing.
use Prim.Native.Nat.{◌≤◌}
use Rattle.graph.specs.Reach.{matrix}
use Rattle.order.specs.State.{Part}
use Rattle.order.proofs.settle.Given as goal

abbrev pub invariant-loop-w : goal.invariant-loop-w
invariant-loop-w l = (l.w ≤ l.n) × Part (matrix l.adj) l.v l.w l.need l.initial.need
