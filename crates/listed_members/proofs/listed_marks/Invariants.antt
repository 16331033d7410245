-- `listed_members::listed_marks` meets its contract. Assumes nothing.
use Prim.Native.Nat.{◌≤◌}
use lib.ListN.{drop}
use Rattle.layout.specs.Content.{live_vertices}
use Rattle.layout.specs.Layout.{limit, read, read_hyperedges}
use Rattle.lookups.specs.State.{no_marks}
use Rattle.lookups.proofs.Marking.{Marking}
use Rattle.properties.specs.State.{in_trimmed}
use Rattle.listed_members.proofs.listed_marks.Given as goal

abbrev pub invariant-loop-j : goal.invariant-loop-j
invariant-loop-j l = (l.j ≤ l.m) × Marking (live_vertices (read limit l.t)) (in_trimmed l.front l.back) (read_hyperedges limit l.t) (drop l.j (read_hyperedges limit l.t)) no_marks l.marks
