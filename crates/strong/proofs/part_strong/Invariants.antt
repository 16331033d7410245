-- `strong::part_strong` meets its contract. Assumes nothing.
use mathlib.Core.List.{reverse}
use Prim.Native.Nat.{◌≤◌}
use lib.ListN.{take}
use Rattle.graph.specs.Reach.{matrix}
use Rattle.components.specs.Classes.{roots_of}
use Rattle.components.specs.Parts.{Parting}
use Rattle.strong.specs.Strong.{mutually_reached, latest_first}
use Rattle.strong.proofs.part_strong.Given as goal

abbrev pub invariant-loop-k : goal.invariant-loop-k
invariant-loop-k l = (l.k ≤ l.t) × Parting (mutually_reached (matrix l.adj) l.n) l.n (roots_of (mutually_reached (matrix l.adj) l.n) (latest_first (matrix l.adj) l.n)) (reverse (take l.k l.order)) l.ids l.c
