-- `cut_vertices::clear_row` meets its contract: the row up to the place. Assumes nothing.
use Prim.Native.Nat.{◌≤◌}
use Rattle.layout.specs.Layout.{vertex_limit}
use Rattle.cut.specs.State.{Cleared}
use Rattle.cut_vertices.proofs.clear_row.Given as goal

abbrev pub invariant-loop-j : goal.invariant-loop-j
invariant-loop-j l = (l.j ≤ vertex_limit) × Cleared l.v l.j l.initial.rest l.rest
