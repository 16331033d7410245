-- `marks::count_marked` meets its contract. Assumes nothing.
use mathlib.Core.Path.{refl}
use Prim.Native.Nat.{◌-◌}
use native.Mathlib.Omega.{arith}
use Rattle.lists.proofs.Count.{count-in, count-out, count-end}
use Rattle.marks.specs.Marks.{is_marked}
use borrow.Author.Rules.{rules}
use Rattle.marks.proofs.count_marked.Goals as goal
use Rattle.marks.proofs.count_marked.Goals.{then-marks-k, else-marks-k}

pub loop-k-init : goal.loop-k-init
loop-k-init c = (search rules, search rules, refl)

pub loop-k-preserved : goal.loop-k-preserved
loop-k-preserved c =
    let p = is_marked c.args.marks.now in (
      omega arith,
      elim c.if-marks-k.branch [ then-marks-k w ↦ omega arith | else-marks-k w ↦ omega arith ],
      elim c.if-marks-k.branch [ then-marks-k w ↦ count-in p c.loop-k.k c.loop-k.c c.loop-k.invariant.2 _ w.if-marks-k.true w.c-is | else-marks-k w ↦ count-out p c.loop-k.k c.loop-k.c c.loop-k.invariant.2 _ w.if-marks-k.false w.c-is ],
    )

pub returns : goal.returns
returns c = search count-end
