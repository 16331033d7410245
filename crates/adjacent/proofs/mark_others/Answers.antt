-- `adjacent::mark_others` meets its contract. Assumes nothing.
use mathlib.Core.Path.{◌∙◌}
use native.Mathlib.Omega.{arith}
use Rattle.layout.specs.Layout.{limit}
use Rattle.lookups.proofs.Marking.{mark-one, marking-none, marking-more, marking-skip, marking-end, marked-as, drop_more, drop-none, other-yes, other-no}
use borrow.Author.Rules.{rules}
use Rattle.adjacent.proofs.mark_others.Goals as goal
use Rattle.adjacent.proofs.mark_others.Goals.{then-ms-i, else-ms-i}

pub loop-i-init : goal.loop-i-init
loop-i-init c = (search rules, marking-none _ _ _ _)

pub loop-i-preserved : goal.loop-i-preserved
loop-i-preserved c =
    let h = c.loop-i-test.true in (
      omega arith,
      elim c.if-ms-i.branch [
        | then-ms-i w ↦ marking-more c.loop-i.invariant.1 (drop_more _ _ h)
            (marked-as (other-yes _ _ w.if-ms-i.true) (mark-one limit c.args.t.now _ c.requires.formed (c.loop-i.invariant.1.sized ∙ c.requires.marks_len) (w.marks-is ∙ w.mark.ensures)))
        | else-ms-i w ↦ marking-skip c.loop-i.invariant.1 (drop_more _ _ h) (other-no _ _ w.if-ms-i.false) w.marks-is
      ],
    )

pub returns : goal.returns
returns c = marking-end c.loop-i.invariant.1 (drop-none _ _ c.loop-i-test.false)
