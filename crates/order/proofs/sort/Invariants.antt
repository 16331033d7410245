-- `order::sort` meets its contract. Assumes nothing.
use Prim.Native.Nat.{◌-◌}
use Rattle.graph.specs.Reach.{matrix}
use Rattle.order.specs.State.{Sorting}
use Rattle.order.proofs.sort.Given as goal

abbrev pub invariant-loop-v : goal.invariant-loop-v
invariant-loop-v l = Sorting (matrix l.adj) l.n l.need l.out l.t l.v

abbrev pub decreases-loop-v : goal.decreases-loop-v
decreases-loop-v l = l.n - l.t
