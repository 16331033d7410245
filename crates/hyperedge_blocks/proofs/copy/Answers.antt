-- `hyperedge_blocks::copy` meets its contract. Assumes nothing.
use mathlib.Core.Path.{refl}
use native.Mathlib.Omega.{arith}
use Rattle.lookups.proofs.Laid.{copied_none, copied_more, copied-end}
use borrow.Author.Rules.{rules}
use Rattle.hyperedge_blocks.proofs.copy.Goals as goal

pub loop-i-init : goal.loop-i-init
loop-i-init c = (search rules, copied_none _ _)

pub loop-i-preserved : goal.loop-i-preserved
loop-i-preserved c = (omega arith, copied_more c.loop-i.invariant.1 _ refl c.loop-i-test.true c.requires)

pub shape_of-out : goal.shape_of-out
shape_of-out c = c.loop-i.invariant.1.same

pub returns : goal.returns
returns c = search copied-end
