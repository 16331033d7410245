-- `dijkstra_from::put_costs` meets its contract: `Keyed` at each record. Assumes nothing.
use Prim.Native.Nat.{◌≤◌}
use Rattle.layout.specs.Layout.{limit, read}
use Rattle.paths.proofs.Writing.{Keyed}
use Rattle.dijkstra_from.proofs.put_costs.Given as goal

abbrev pub invariant-loop-v : goal.invariant-loop-v
invariant-loop-v l = (l.v ≤ l.n) × Keyed (read limit l.t) l.m l.d l.initial.out l.v l.at l.out
