-- `orphans::others` meets its contract. Assumes nothing.
use Prim.Native.Nat.{◌≤◌}
use Rattle.layout.specs.Layout.{vertex_limit}
use Rattle.properties.proofs.Marking.{Turned}
use Rattle.orphans.proofs.others.Given as goal

abbrev pub invariant-loop-k : goal.invariant-loop-k
invariant-loop-k l = (l.k ≤ vertex_limit) × Turned l.marks l.k l.rest
