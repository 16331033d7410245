-- `inclusions::write_pairs` meets its contract. Assumes nothing.
use Prim.Native.Nat.{◌≤◌}
use Rattle.layout.specs.Layout.{limit, hyperedge_at, read}
use Rattle.lookups.proofs.Laid.{Laid}
use Rattle.properties.specs.Properties.{pairs_of}
use Rattle.inclusions.proofs.write_pairs.Given as goal

abbrev pub invariant-loop-a : goal.invariant-loop-a
invariant-loop-a l = (l.a ≤ l.k) × Laid (pairs_of (read limit l.t)) (hyperedge_at limit l.t) l.initial.out l.a l.c l.out
