-- `reached_vertices::others` meets its contract. Assumes nothing.
use native.Mathlib.Omega.{arith}
use Rattle.lookups.specs.State.{no_marks}
use Rattle.reached_vertices.proofs.Seen.{noted-none, noted_more, noted-end}
use borrow.Author.Rules.{rules}
use Rattle.reached_vertices.proofs.others.Goals as goal

pub loop-k-init : goal.loop-k-init
unfolding no_marks
loop-k-init c = (search rules, search noted-none)

pub loop-k-preserved : goal.loop-k-preserved
loop-k-preserved c = (search rules, noted_more c.loop-k.invariant.1 (omega arith))

pub returns : goal.returns
returns c = noted-end c.loop-k.invariant.1 _ _ (omega arith) (omega arith)
