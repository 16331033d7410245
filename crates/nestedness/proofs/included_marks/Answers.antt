-- `nestedness::included_marks` meets its contract. Assumes nothing.
use native.Mathlib.Omega.{arith}
use Rattle.lookups.specs.State.{no_marks}
use Rattle.properties.proofs.Rows.{including-none, including-more, including-end}
use borrow.Author.Rules.{rules}
use Rattle.nestedness.proofs.included_marks.Goals as goal

pub loop-a-init : goal.loop-a-init
unfolding no_marks
loop-a-init c = (search rules, including-none _)

pub is_included-requires : goal.is_included-requires
is_included-requires c = record { formed = search rules; sets = search rules; a_bound = omega arith }

pub loop-a-preserved : goal.loop-a-preserved
loop-a-preserved c = (omega arith, including-more c.loop-a.invariant.1 _ c.is_included.ensures (omega arith))

pub returns : goal.returns
returns c = search including-end
