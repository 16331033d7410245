-- `add_vertex::put_vertex` meets its contract. Assumes nothing.
use native.Mathlib.Omega.{arith}
use lib.ListN.{length-set}
use Rattle.add_vertex.proofs.put_vertex.Goals as goal

pub bounds-t-n-2 : goal.bounds-t-n-2
bounds-t-n-2 c = simp length-set (omega arith)
