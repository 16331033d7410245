-- `graph::serve` meets its contract. The invariant: to serve what is left of the queue gives the whole listing. Assumes nothing.
use Rattle.graph.specs.Bfs.{run, bfs}
use Rattle.graph.specs.Held.{Queued}
use Rattle.graph.specs.Reach.{matrix}
use mathlib.Core.Path.{◌≡◌}
use Prim.Native.Nat.{◌-◌, ◌≤◌}
use lib.ListN.{take}
use Rattle.graph.proofs.serve.Given as goal

abbrev pub invariant-loop-head : goal.invariant-loop-head
invariant-loop-head l =
    (l.head ≤ l.tail) × (l.tail ≤ l.n) × Queued l.n l.marks l.order l.rest l.tail (take l.tail l.order)
    × (run (matrix l.adj) l.n (l.n - l.head) l.head (take l.tail l.order) ≡ bfs (matrix l.adj) l.n l.start)

abbrev pub decreases-loop-head : goal.decreases-loop-head
decreases-loop-head l = l.n - l.head
