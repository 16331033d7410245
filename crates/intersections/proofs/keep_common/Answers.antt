-- `intersections::keep_common` meets its contract. Assumes nothing.
use native.Mathlib.Omega.{arith}
use Rattle.lookups.proofs.Shared.{common-none, common-more, common-end}
use borrow.Author.Rules.{rules}
use Rattle.intersections.proofs.keep_common.Goals as goal

pub loop-k-init : goal.loop-k-init
loop-k-init c = (search rules, common-none _ _)

pub loop-k-preserved : goal.loop-k-preserved
loop-k-preserved c = (omega arith, common-more c.loop-k.invariant.1 _ c.both.ensures (omega arith))

pub returns : goal.returns
returns c = search common-end
