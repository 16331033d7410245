-- `sift_vertices::sift_vertices` meets its contract. Assumes nothing.
use Prim.Native.Nat.{◌≤◌}
use Rattle.sift_vertices.specs.Unmarked.{VerticesSifted}
use Rattle.sift_vertices.proofs.sift_vertices.Given as goal

abbrev pub invariant-loop-i : goal.invariant-loop-i
invariant-loop-i l = (l.i ≤ l.n) × VerticesSifted l.marks l.old l.initial.t l.i l.k l.t
