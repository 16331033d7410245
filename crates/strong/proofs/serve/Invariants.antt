-- `strong::serve` meets its contract. The invariant: to serve what is left of the queue gives the whole listing.
-- Assumes nothing.
use Rattle.graph.specs.Bfs.{run, bfs}
use Rattle.graph.specs.Held.{Held}
use Rattle.graph.specs.Reach.{matrix}
use Rattle.components.specs.Parts.{flagged}
use Rattle.strong.specs.State.{inside}
use mathlib.Core.Path.{◌≡◌}
use Prim.Native.Nat.{◌-◌, ◌≤◌}
use lib.ListN.{take}
use Rattle.strong.proofs.serve.Given as goal

abbrev pub invariant-loop-head : goal.invariant-loop-head
invariant-loop-head l =
    (l.head ≤ l.tail) × (l.tail ≤ l.n) × Held l.n l.marks l.order l.tail (take l.tail l.order)
    × (run (inside (matrix l.adj) (flagged l.free)) l.n (l.n - l.head) l.head (take l.tail l.order) ≡ bfs (inside (matrix l.adj) (flagged l.free)) l.n l.start)

abbrev pub decreases-loop-head : goal.decreases-loop-head
decreases-loop-head l = l.n - l.head
