-- `nestedness::is_included` meets its contract. Assumes nothing.
use mathlib.Core.Path.{◌≡◌}
use Prim.Native.Nat.{◌≤◌}
use lib.ListN.{drop}
use Rattle.lists.specs.Lists.{any}
use Rattle.layout.specs.Layout.{limit, hyperedge_at, read_hyperedges, read}
use Rattle.properties.specs.Properties.{is_within, is_included}
use Rattle.nestedness.proofs.is_included.Given as goal

abbrev pub invariant-loop-b : goal.invariant-loop-b
invariant-loop-b l = (l.b ≤ l.k) × (any (is_within (read limit l.t) (hyperedge_at limit l.t l.a)) (drop l.b (read_hyperedges limit l.t)) ≡ is_included (read limit l.t) (hyperedge_at limit l.t l.a))
