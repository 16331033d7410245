-- `dijkstra_from::count_reached` meets its contract. Assumes nothing.
use mathlib.Core.Path.{◌≡◌}
use Prim.Native.Nat.{◌≤◌}
use Rattle.lists.specs.Tests.{count}
use Rattle.paths.specs.Written.{is_reached}
use Rattle.dijkstra_from.proofs.count_reached.Given as goal

abbrev pub invariant-loop-v : goal.invariant-loop-v
invariant-loop-v l = (l.v ≤ l.n) × (l.k ≤ l.v) × (l.k ≡ count (is_reached l.m) l.v)
