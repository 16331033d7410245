-- `closure::count_row` meets its contract. Assumes nothing.
use mathlib.Core.Path.{refl, sym, ◌∙◌}
use native.Mathlib.Omega.{arith}
use Rattle.lists.proofs.Count.{count-in, count-out, count-end}
use Rattle.graph.specs.Reach.{matrix}
use Rattle.closure.specs.Pairs.{apart}
use Rattle.closure.proofs.count_row.Goals as goal
use Rattle.closure.proofs.count_row.Goals.{then-is_pair, else-is_pair}

pub loop-y-init : goal.loop-y-init
loop-y-init c = (omega arith, omega arith, refl)

pub loop-y-preserved : goal.loop-y-preserved
loop-y-preserved c =
    let p = apart (matrix c.args.m.now) c.args.x in (
      omega arith,
      elim c.if-is_pair.branch [ then-is_pair w ↦ omega arith | else-is_pair w ↦ omega arith ],
      elim c.if-is_pair.branch [ then-is_pair w ↦ count-in p c.loop-y.y c.loop-y.c c.loop-y.invariant.2 _ (sym c.is_pair.ensures ∙ w.if-is_pair.true) w.c-is | else-is_pair w ↦ count-out p c.loop-y.y c.loop-y.c c.loop-y.invariant.2 _ (sym c.is_pair.ensures ∙ w.if-is_pair.false) w.c-is ],
    )

pub returns : goal.returns
returns c = search count-end
