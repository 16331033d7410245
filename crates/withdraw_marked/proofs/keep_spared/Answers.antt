-- `withdraw_marked::keep_spared` meets its contract: `Kept` at each word. Assumes nothing.
use mathlib.Core.Path.{refl, sym, ◌∙◌}
use Prim.Native.Nat.{◌<◌}
use lib.ListN.{length}
use native.Mathlib.Omega.{arith}
use Rattle.edits.proofs.KeptWords.{kept-none, kept-yes, kept-no, kept-end}
use Rattle.withdraw_marked.specs.Sifting.{member_spared}
use borrow.Author.Rules.{rules}
use Rattle.withdraw_marked.proofs.keep_spared.Goals as goal
use Rattle.withdraw_marked.proofs.keep_spared.Goals.{then-is_spared, else-is_spared}

pub loop-i-init : goal.loop-i-init
loop-i-init c = (search rules, kept-none _ _ _ _)

pub overflow_add-t : goal.overflow_add-t
overflow_add-t c = omega (arith, c.loop-i.invariant.1.behind)

pub offset_bounds-t-to : goal.offset_bounds-t-to
offset_bounds-t-to c = omega (arith, c.loop-i.invariant.1.behind)

pub bounds-t-to : goal.bounds-t-to
bounds-t-to c =
    let k = c.loop-i.invariant.1 in
    omega (arith, k.behind, k.copied.same)

pub overflow_add-c : goal.overflow_add-c
overflow_add-c c = omega (arith, c.loop-i.invariant.1.behind)

pub loop-i-preserved : goal.loop-i-preserved
loop-i-preserved c =
    let a = c.args in
    let k = c.loop-i.invariant.1 in
    let p = member_spared a.vertices.now a.old.now in
    let h : c.loop-i.i < length a.list.now = search rules in (
      search rules,
      elim c.if-is_spared.branch [ then-is_spared w ↦ kept-yes p a.list.now a.t.now a.to c.loop-i.i c.loop-i.c c.loop-i.t k _ _ _ h (omega (arith, k.behind)) refl (sym c.is_spared.ensures ∙ w.if-is_spared.true) w.c-is w.t-is | else-is_spared w ↦ kept-no p a.list.now a.t.now a.to c.loop-i.i c.loop-i.c c.loop-i.t k _ _ _ h refl (sym c.is_spared.ensures ∙ w.if-is_spared.false) w.c-is w.t-is ],
    )

pub shape_of-t : goal.shape_of-t
shape_of-t c = c.loop-i.invariant.1.copied.same

pub returns : goal.returns
returns c = kept-end _ _ _ _ c.loop-i.i c.loop-i.c _ c.loop-i.invariant.1 (search rules)
