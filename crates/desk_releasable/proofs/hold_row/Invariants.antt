-- `desk_releasable::hold_row` meets its contract. Assumes nothing.
use mathlib.Core.Path.{◌≡◌}
use Prim.Native.Nat.{◌≤◌}
use lib.ListN.{length}
use Rattle.layout.specs.Layout.{vertex_limit}
use Rattle.graph.specs.Reach.{matrix}
use Rattle.desk_looks.proofs.Marking.{Joining}
use Rattle.desk_releasable.proofs.hold_row.Given as goal

abbrev pub invariant-loop-k : goal.invariant-loop-k
invariant-loop-k l = (l.k ≤ vertex_limit) × (length l.held ≡ vertex_limit) × Joining (matrix l.m l.u) l.k l.initial.held l.held
