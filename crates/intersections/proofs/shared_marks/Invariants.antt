-- `intersections::shared_marks` meets its contract. Assumes nothing.
use Prim.Native.Nat.{◌≤◌}
use lib.ListN.{length, drop}
use Rattle.layout.specs.Content.{live_vertices}
use Rattle.layout.specs.Layout.{limit, read}
use Rattle.lookups.specs.Lookups.{has_member}
use Rattle.lookups.proofs.Shared.{Keeping}
use Rattle.intersections.proofs.shared_marks.Given as goal

abbrev pub invariant-loop-i : goal.invariant-loop-i
invariant-loop-i l = (l.i ≤ length l.hyperedges) × Keeping (live_vertices (read limit l.t)) (has_member (read limit l.t)) l.hyperedges (drop l.i l.hyperedges) l.marks
