-- `intersections::member_marks` meets its contract. Assumes nothing.
use Prim.Native.Nat.{◌≤◌}
use lib.Dec.{eqb}
use lib.ListN.{length, drop}
use Rattle.layout.specs.Content.{live_vertices}
use Rattle.layout.specs.Layout.{limit, read}
use Rattle.lookups.specs.State.{no_marks}
use Rattle.lookups.proofs.Marking.{Marking}
use Rattle.intersections.proofs.member_marks.Given as goal

abbrev pub invariant-loop-i : goal.invariant-loop-i
invariant-loop-i l = (l.i ≤ length l.ms) × Marking (live_vertices (read limit l.t)) eqb l.ms (drop l.i l.ms) no_marks l.marks
