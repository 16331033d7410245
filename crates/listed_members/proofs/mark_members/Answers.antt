-- `listed_members::mark_members` meets its contract. Assumes nothing.
use mathlib.Core.Path.{◌∙◌}
use native.Mathlib.Omega.{arith}
use Rattle.layout.specs.Layout.{limit}
use Rattle.lookups.proofs.Marking.{mark-one, marking-none, marking-more, marking-end, drop_more, drop-none}
use borrow.Author.Rules.{rules}
use Rattle.listed_members.proofs.mark_members.Goals as goal

pub loop-i-init : goal.loop-i-init
loop-i-init c = (search rules, marking-none _ _ _ _)

pub loop-i-preserved : goal.loop-i-preserved
loop-i-preserved c =
    (omega arith, marking-more c.loop-i.invariant.1 (drop_more _ _ c.loop-i-test.true) (mark-one limit c.args.t.now _ c.requires.formed (c.loop-i.invariant.1.sized ∙ c.requires.marks_len) c.mark.ensures))

pub returns : goal.returns
returns c = marking-end c.loop-i.invariant.1 (drop-none _ _ c.loop-i-test.false)
