-- `rings::lowest` meets its contract. Assumes nothing.
use mathlib.Core.Path.{◌≡◌}
use Prim.Native.Nat.{◌≤◌, ◌-◌}
use Rattle.graph.specs.Reach.{matrix}
use Rattle.order.specs.Least.{least}
use Rattle.rings.specs.Search.{comes_back, lowest}
use Rattle.rings.proofs.lowest.Given as goal

abbrev pub invariant-loop-x : goal.invariant-loop-x
invariant-loop-x l = (l.x ≤ l.n) × (least (comes_back (matrix l.adj) l.n) (l.n - l.x) l.x ≡ lowest (matrix l.adj) l.n)
