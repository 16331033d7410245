-- `intersections::keep_common` meets its contract. Assumes nothing.
use Prim.Native.Nat.{◌≤◌}
use Rattle.layout.specs.Layout.{vertex_limit}
use Rattle.lookups.proofs.Shared.{Common}
use Rattle.intersections.proofs.keep_common.Given as goal

abbrev pub invariant-loop-k : goal.invariant-loop-k
invariant-loop-k l = (l.k ≤ vertex_limit) × Common l.others l.initial.marks l.k l.marks
