-- `listed_members::mark_members` meets its contract. Assumes nothing.
use Prim.Native.Nat.{◌≤◌}
use lib.Dec.{eqb}
use lib.ListN.{length, drop}
use Rattle.layout.specs.Content.{live_vertices}
use Rattle.layout.specs.Layout.{limit, read}
use Rattle.lookups.proofs.Marking.{Marking}
use Rattle.listed_members.proofs.mark_members.Given as goal

abbrev pub invariant-loop-i : goal.invariant-loop-i
invariant-loop-i l = (l.i ≤ length l.ms) × Marking (live_vertices (read limit l.t)) eqb l.ms (drop l.i l.ms) l.initial.marks l.marks
