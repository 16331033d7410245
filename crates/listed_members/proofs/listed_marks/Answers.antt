-- `listed_members::listed_marks` meets its contract. Assumes nothing.
use mathlib.Core.Path.{◌∙◌}
use native.Mathlib.Omega.{arith}
use Rattle.layout.specs.Layout.{limit}
use Rattle.lookups.specs.State.{no_marks}
use Rattle.lookups.proofs.Places.{records-more, records-none}
use Rattle.lookups.proofs.Marking.{marking-none, marking-more, marking-end, no-marks-length}
use borrow.Author.Rules.{rules}
use Rattle.listed_members.proofs.listed_marks.Goals as goal

pub loop-j-init : goal.loop-j-init
unfolding no_marks
loop-j-init c = (search rules, marking-none _ _ _ _)

pub mark_record-requires : goal.mark_record-requires
mark_record-requires c = record { formed = search rules; j_bound = (omega arith, (search rules, c.loop-j.invariant.1.sized ∙ no-marks-length)) }

pub loop-j-preserved : goal.loop-j-preserved
loop-j-preserved c = (
  omega arith,
  marking-more c.loop-j.invariant.1 (records-more limit c.args.t.now c.hyperedge_count-m.ensures c.loop-j-test.true) c.mark_record.ensures,
)

pub returns : goal.returns
returns c = marking-end c.loop-j.invariant.1 (records-none limit c.args.t.now c.hyperedge_count-m.ensures c.loop-j-test.false)
