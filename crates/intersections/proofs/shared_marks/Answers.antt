-- `intersections::shared_marks` meets its contract. Assumes nothing.
use native.Mathlib.Omega.{arith}
use Rattle.layout.specs.Layout.{limit}
use Rattle.lookups.specs.Lookups.{is_shared}
use Rattle.lookups.specs.State.{no_marks}
use Rattle.lookups.proofs.Marking.{drop_more, drop-none}
use Rattle.lookups.proofs.Shared.{all_marks, live-fit, keeping_none, keeping-more, keeping-over, keeping-end, no_member, member_of, found_in}
use borrow.Author.Rules.{rules}
use Rattle.intersections.proofs.shared_marks.Goals as goal

pub loop-i-init : goal.loop-i-init
unfolding all_marks
loop-i-init c = (search rules, keeping_none _ _ _ (live-fit limit c.args.t.now c.requires))

pub returns-in_default : goal.returns-in_default
unfolding no_marks is_shared
returns-in_default c = keeping-over c.loop-i.invariant.1 (live-fit limit c.args.t.now c.requires) (drop_more _ _ c.loop-i-test.true) (search no_member)

pub keep_members-requires : goal.keep_members-requires
keep_members-requires c = record { formed = search rules; j_bound = (search found_in, c.loop-i.invariant.1.sized) }

pub loop-i-preserved : goal.loop-i-preserved
loop-i-preserved c = (omega arith, keeping-more c.loop-i.invariant.1 (drop_more _ _ c.loop-i-test.true) c.keep_members.ensures (search member_of))

pub returns : goal.returns
unfolding is_shared
returns c = keeping-end c.loop-i.invariant.1 (live-fit limit c.args.t.now c.requires) (drop-none _ _ c.loop-i-test.false)
