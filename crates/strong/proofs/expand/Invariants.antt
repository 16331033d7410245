-- `strong::expand` meets its contract. The invariant: what is left of the round, from j on, makes of the queue so far what the whole round makes of it at the start.
-- Assumes nothing.
use Rattle.components.specs.Parts.{flagged}
use Rattle.strong.specs.State.{inside}
use Rattle.graph.specs.Bfs.{spread}
use Rattle.graph.specs.Held.{Held}
use Rattle.graph.specs.Reach.{matrix}
use mathlib.Core.Path.{◌≡◌}
use Prim.Native.Nat.{◌-◌, ◌≤◌}
use lib.ListN.{take}
use Rattle.strong.proofs.expand.Given as goal

abbrev pub invariant-loop-j : goal.invariant-loop-j
invariant-loop-j l =
    (l.j ≤ l.n) × Held l.n l.marks l.order l.end (take l.end l.order)
    × (spread (inside (matrix l.adj) (flagged l.free)) l.x (l.n - l.j) l.j (take l.end l.order) ≡ spread (inside (matrix l.adj) (flagged l.free)) l.x l.n 0 (take l.tail l.initial.order))
