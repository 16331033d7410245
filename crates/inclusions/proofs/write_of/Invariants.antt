-- `inclusions::write_of` meets its contract. Assumes nothing.
use Prim.Native.Nat.{◌≤◌}
use Rattle.layout.specs.Layout.{limit, hyperedge_at, read}
use Rattle.lookups.proofs.Laid.{Laid}
use Rattle.properties.specs.Properties.{pair}
use Rattle.inclusions.proofs.write_of.Given as goal

abbrev pub invariant-loop-b : goal.invariant-loop-b
invariant-loop-b l = (l.b ≤ l.k) × Laid (pair (read limit l.t) (hyperedge_at limit l.t l.a)) (hyperedge_at limit l.t) l.initial.out l.b l.c l.out
