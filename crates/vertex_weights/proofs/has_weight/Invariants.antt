-- `vertex_weights::has_weight` meets its contract. Assumes nothing.
use mathlib.Core.Path.{◌≡◌}
use Prim.Native.Nat.{◌≤◌}
use lib.ListN.{drop}
use Rattle.lists.specs.Lists.{any}
use Rattle.layout.specs.Layout.{limit, read_vertices, read}
use Rattle.lookups.specs.Lookups.{weighs, has_vertex_weighing}
use Rattle.vertex_weights.proofs.has_weight.Given as goal

abbrev pub invariant-loop-k : goal.invariant-loop-k
invariant-loop-k l = (l.k ≤ l.n) × (any (weighs l.weight) (drop l.k (read_vertices l.t)) ≡ has_vertex_weighing l.weight (read limit l.t))
