-- `adjacent::mark_ends` meets its contract. Assumes nothing.
use Prim.Native.Nat.{◌≤◌}
use lib.ListN.{length, drop}
use Rattle.layout.specs.Content.{live_vertices}
use Rattle.layout.specs.Layout.{limit, read}
use Rattle.layout.specs.Steps.{steps_of, is_step}
use Rattle.lookups.specs.Lookups.{oriented}
use Rattle.lookups.proofs.Marking.{Marking}
use Rattle.adjacent.proofs.mark_ends.Given as goal

abbrev pub invariant-loop-i : goal.invariant-loop-i
invariant-loop-i l = (l.i ≤ length l.list) × Marking (live_vertices (read limit l.t)) (oriented l.dir is_step l.v) (steps_of l.list) (steps_of (drop l.i l.list)) l.initial.marks l.marks
