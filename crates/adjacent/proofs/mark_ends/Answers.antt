-- `adjacent::mark_ends` meets its contract. Assumes nothing.
use lib.ListN.{length}
use mathlib.Core.Path.{◌∙◌}
use Prim.Native.Nat.{◌+◌, ◌<◌}
use native.Mathlib.Omega.{arith}
use Rattle.layout.specs.Layout.{limit}
use Rattle.layout.specs.Inner.{step_at}
use Rattle.layout.proofs.Steps.{steps-more, steps-end}
use Rattle.lookups.proofs.Marking.{mark-one, marking-none, marking-more, marking-skip, marking-end, marked-as, step-yes, step-no}
use borrow.Author.Rules.{rules}
use Rattle.adjacent.proofs.mark_ends.Goals as goal
use Rattle.adjacent.proofs.mark_ends.Goals.{then-ends-v, else-ends-v}

pub loop-i-init : goal.loop-i-init
loop-i-init c = (search rules, marking-none _ _ _ _)

pub loop-i-preserved : goal.loop-i-preserved
loop-i-preserved c =
    let h : c.loop-i.i + 1 < length c.args.list.now = omega arith in let e = c.ends_at-ends.ensures in let p = step_at c.args.list.now c.loop-i.i in (
      omega arith,
      elim c.if-ends-v.branch [
        | then-ends-v w ↦ marking-more c.loop-i.invariant.1 (steps-more _ _ h)
            (marked-as (step-yes _ p c.args.dir e w.if-ends-v.true) (mark-one limit c.args.t.now _ c.requires.formed (c.loop-i.invariant.1.sized ∙ c.requires.marks_len) (w.marks-is ∙ w.mark.ensures)))
        | else-ends-v w ↦ marking-skip c.loop-i.invariant.1 (steps-more _ _ h) (step-no _ p c.args.dir e w.if-ends-v.false) w.marks-is
      ],
    )

pub returns : goal.returns
returns c = marking-end c.loop-i.invariant.1 (steps-end c.args.list.now c.loop-i.i (omega arith))
