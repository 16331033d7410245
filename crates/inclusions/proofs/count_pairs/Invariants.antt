-- `inclusions::count_pairs` meets its contract. Assumes nothing.
use Prim.Native.Nat.{◌≤◌, ◌*◌}
use Rattle.layout.specs.Layout.{limit, hyperedge_limit, hyperedge_at, read}
use Rattle.properties.specs.Properties.{pairs_of}
use Rattle.properties.proofs.Blocks.{Totalled}
use Rattle.inclusions.proofs.count_pairs.Given as goal

abbrev pub invariant-loop-a : goal.invariant-loop-a
invariant-loop-a l = (l.a ≤ l.k) × Totalled (pairs_of (read limit l.t)) (hyperedge_at limit l.t) (hyperedge_limit * 2) l.a l.c
