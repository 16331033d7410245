-- `add_hyperedge::put_hyperedge` meets its contract. Assumes nothing.
use native.Mathlib.Omega.{arith}
use lib.ListN.{length-set}
use Rattle.edits.proofs.AddHyperedge.{hyperedge-stored}
use borrow.Author.Rules.{rules}
use Rattle.add_hyperedge.proofs.put_hyperedge.Goals as goal

pub bounds-t-a-2 : goal.bounds-t-a-2
bounds-t-a-2 c = simp length-set (omega arith)

pub put_members-requires : goal.put_members-requires
put_members-requires c = (simp length-set (omega arith), (search rules, search rules))

pub bounds-t-1 : goal.bounds-t-1
bounds-t-1 c = omega (arith, simp length-set at c.put_members.auto.t)

pub bounds-t-3 : goal.bounds-t-3
bounds-t-3 c = simp length-set (omega (arith, simp length-set at c.put_members.auto.t))

pub shape_of-t : goal.shape_of-t
shape_of-t c = simp length-set (simp length-set at c.put_members.auto.t)

pub returns : goal.returns
returns c = search hyperedge-stored
