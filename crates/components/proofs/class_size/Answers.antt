-- `components::class_size` meets its contract. Assumes nothing.
use mathlib.Core.Path.{refl}
use native.Mathlib.Omega.{arith}
use Rattle.lists.proofs.Count.{count-in, count-out, count-end}
use Rattle.components.specs.Parts.{in_class}
use borrow.Author.Rules.{rules}
use borrow.Author.Tests.{eq-eqb, ne_eqb}
use Rattle.components.proofs.class_size.Goals as goal
use Rattle.components.proofs.class_size.Goals.{then-ids-v, else-ids-v}

pub loop-v-init : goal.loop-v-init
loop-v-init c = (search rules, search rules, refl)

pub loop-v-preserved : goal.loop-v-preserved
loop-v-preserved c =
    let p = in_class c.args.ids.now c.args.k in (
      omega arith,
      elim c.if-ids-v.branch [ then-ids-v w ↦ omega arith | else-ids-v w ↦ omega arith ],
      elim c.if-ids-v.branch [ then-ids-v w ↦ count-in p c.loop-v.v c.loop-v.c c.loop-v.invariant.2 _ (eq-eqb _ _ w.if-ids-v.true) w.c-is | else-ids-v w ↦ count-out p c.loop-v.v c.loop-v.c c.loop-v.invariant.2 _ (ne_eqb _ _ w.if-ids-v.false) w.c-is ],
    )

pub returns : goal.returns
returns c = search count-end
