-- `rings::before` meets its contract. Assumes nothing.
use mathlib.Core.Path.{◌≡◌}
use Prim.Native.Nat.{◌≤◌, ◌-◌}
use Rattle.graph.specs.Reach.{matrix}
use Rattle.order.specs.Least.{least}
use Rattle.components.specs.Parts.{flagged}
use Rattle.rings.specs.Search.{leads_to, before}
use Rattle.rings.proofs.before.Given as goal

abbrev pub invariant-loop-j : goal.invariant-loop-j
invariant-loop-j l = (l.j ≤ l.n) × (least (leads_to (matrix l.adj) (flagged l.marks) l.y) (l.n - l.j) l.j ≡ before (matrix l.adj) l.n (flagged l.marks) l.y)
