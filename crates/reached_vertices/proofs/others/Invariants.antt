-- `reached_vertices::others` meets its contract. Assumes nothing.
use Prim.Native.Nat.{◌≤◌}
use Rattle.reached_vertices.proofs.Seen.{Noted}
use Rattle.reached_vertices.proofs.others.Given as goal

abbrev pub invariant-loop-k : goal.invariant-loop-k
invariant-loop-k l = (l.k ≤ l.n) × Noted l.seen l.k l.marks
