-- `components::join` meets its contract. Assumes nothing.
use Rattle.components.specs.Parts.{flagged}
use Rattle.lists.proofs.Store.{store-more, store-rest}
use native.Mathlib.Omega.{arith}
use mathlib.Core.Path.{◌≡◌, refl, ap, ◌∙◌}
use Prim.Native.Nat.{ℕ}
use mathlib.Core.Bool.{cond}
use native.Mathlib.Nat.{not-suc-le-zero}
use lib.ListN.{get_or, length-set}
use Rattle.components.proofs.join.Goals as goal

pub loop-v-init : goal.loop-v-init
loop-v-init c = (omega arith, c.requires.1, (λ i l. absurd (not-suc-le-zero l)), λ i l. refl)

pub offset_bounds-ids-v : goal.offset_bounds-ids-v
offset_bounds-ids-v c = omega arith

pub bounds-ids-v : goal.bounds-ids-v
bounds-ids-v c = omega arith

pub bounds-marks-v : goal.bounds-marks-v
bounds-marks-v c = omega arith

pub either-requires : goal.either-requires
either-requires c = omega arith

pub offset_bounds-ids-v-in-loop-v : goal.offset_bounds-ids-v-in-loop-v
offset_bounds-ids-v-in-loop-v c = omega arith

pub bounds-ids-v-in-loop-v : goal.bounds-ids-v-in-loop-v
bounds-ids-v-in-loop-v c = omega arith

pub loop-v-preserved : goal.loop-v-preserved
loop-v-preserved c = (
  omega arith,
  simp length-set c.loop-v.invariant.1,
  store-more (λ i y. y ≡ cond (flagged c.args.marks.now i) c.args.k (get_or c.args.ids.now i 0)) c.loop-v.ids c.loop-v.v c.either.result (omega arith) c.loop-v.invariant.2
      (c.either.ensures ∙ ap (λ (j : ℕ). cond (flagged c.args.marks.now c.loop-v.v) c.args.k j) (c.loop-v.invariant.3 c.loop-v.v (omega arith))),
  store-rest c.loop-v.ids c.args.ids.now c.loop-v.v c.either.result c.loop-v.invariant.3,
)

pub returns : goal.returns
returns c = record { wide = c.loop-v.invariant.1; is = λ v l. c.loop-v.invariant.2 v (omega arith) }
