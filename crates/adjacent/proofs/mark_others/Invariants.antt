-- `adjacent::mark_others` meets its contract. Assumes nothing.
use Prim.Native.Nat.{◌≤◌}
use lib.ListN.{length, drop}
use Rattle.layout.specs.Content.{live_vertices}
use Rattle.layout.specs.Layout.{limit, read}
use Rattle.lookups.specs.State.{is_other}
use Rattle.lookups.proofs.Marking.{Marking}
use Rattle.adjacent.proofs.mark_others.Given as goal

abbrev pub invariant-loop-i : goal.invariant-loop-i
invariant-loop-i l = (l.i ≤ length l.ms) × Marking (live_vertices (read limit l.t)) (is_other l.v) l.ms (drop l.i l.ms) l.initial.marks l.marks
