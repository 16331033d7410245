-- `sift_vertices::move_vertex` meets its contract. Assumes nothing.
use lib.ListN.{length-set}
use native.Mathlib.Omega.{arith}
use Rattle.sift_vertices.proofs.Turns.{vertex-passed, vertex-kept}
use Rattle.sift_vertices.proofs.move_vertex.Goals as goal

pub returns-then-marks-i : goal.returns-then-marks-i
returns-then-marks-i c = search vertex-passed

pub bounds-t-a-2 : goal.bounds-t-a-2
bounds-t-a-2 c = simp length-set (omega arith)

pub returns : goal.returns
returns c = search vertex-kept
