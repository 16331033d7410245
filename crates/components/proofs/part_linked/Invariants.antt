-- `components::part_linked` meets its contract. Assumes nothing.
use Prim.Native.Nat.{◌≤◌}
use lib.ListN.{drop}
use Rattle.graph.specs.Reach.{matrix}
use Rattle.lists.specs.Lists.{up_to}
use Rattle.components.specs.Classes.{reached, roots_of}
use Rattle.components.specs.Parts.{Parting}
use Rattle.components.proofs.part_linked.Given as goal

abbrev pub invariant-loop-r : goal.invariant-loop-r
invariant-loop-r l = (l.r ≤ l.n) × Parting (reached (matrix l.adj) l.n) l.n (roots_of (reached (matrix l.adj) l.n) (up_to l.n)) (drop l.r (up_to l.n)) l.ids l.c
