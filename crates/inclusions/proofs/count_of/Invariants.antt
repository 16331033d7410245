-- `inclusions::count_of` meets its contract. Assumes nothing.
use Prim.Native.Nat.{◌≤◌}
use Rattle.layout.specs.Layout.{limit, hyperedge_at, read}
use Rattle.properties.specs.Properties.{pair}
use Rattle.properties.proofs.Blocks.{Totalled}
use Rattle.inclusions.proofs.count_of.Given as goal

abbrev pub invariant-loop-b : goal.invariant-loop-b
invariant-loop-b l = (l.b ≤ l.k) × Totalled (pair (read limit l.t) (hyperedge_at limit l.t l.a)) (hyperedge_at limit l.t) 2 l.b l.c
