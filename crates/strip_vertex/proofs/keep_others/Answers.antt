-- `strip_vertex::keep_others` meets its contract: `Kept` at each word. Assumes nothing.
use Prim.Native.Nat.{◌<◌}
use lib.ListN.{length, take, drop, length-take, length-drop}
use lib.Seq.{length-take-le}
use native.Mathlib.Omega.{arith}
use Rattle.lists.specs.Lists.{other_than, itself}
use Rattle.edits.proofs.KeptWords.{other-yes, other-no, kept-none, kept-yes, kept-no, kept-end, kept_read}
use Rattle.strip_vertex.proofs.keep_others.Goals as goal
use Rattle.strip_vertex.proofs.keep_others.Goals.{then-x-v, else-x-v}

pub loop-i-init : goal.loop-i-init
loop-i-init c = (omega arith, kept-none _ _ _ _)

pub bounds-t-from : goal.bounds-t-from
bounds-t-from c = omega (arith, c.loop-i.invariant.1.copied.same)

pub overflow_add-t : goal.overflow_add-t
overflow_add-t c =
    omega (arith, c.loop-i.invariant.1.behind)

pub offset_bounds-t-to : goal.offset_bounds-t-to
offset_bounds-t-to c =
    omega (arith, c.loop-i.invariant.1.behind)

pub bounds-t-to : goal.bounds-t-to
bounds-t-to c =
    omega (arith, c.loop-i.invariant.1.behind, c.loop-i.invariant.1.copied.same)

pub overflow_add-c : goal.overflow_add-c
overflow_add-c c =
    omega (arith, c.loop-i.invariant.1.behind)

pub loop-i-preserved : goal.loop-i-preserved
loop-i-preserved c =
    let a = c.args in
    let k = c.loop-i.invariant.1 in
    let p = other_than itself a.v in
    let ms = take a.n (drop a.from a.t.now) in
    let h : c.loop-i.i < length ms = rw (length-take-le a.n (drop a.from a.t.now) (rw length-drop (omega arith))) (omega arith) in
    let e = kept_read p a.from a.n a.t.now a.to c.loop-i.i c.loop-i.c c.loop-i.t k (omega arith) (omega arith) (omega arith) in (
      omega arith,
      elim c.if-x-v.branch [ then-x-v w ↦ kept-yes p ms a.t.now a.to c.loop-i.i c.loop-i.c c.loop-i.t k _ _ _ h (omega (arith, k.behind)) e (other-yes a.v _ w.if-x-v.true) w.c-is w.t-is | else-x-v w ↦ kept-no p ms a.t.now a.to c.loop-i.i c.loop-i.c c.loop-i.t k _ _ _ h e (other-no a.v _ w.if-x-v.false) w.c-is w.t-is ],
    )

pub shape_of-t : goal.shape_of-t
shape_of-t c = c.loop-i.invariant.1.copied.same

pub returns : goal.returns
returns c =
    let a = c.args in
    (omega (arith, c.loop-i.invariant.1.behind), kept-end (other_than itself a.v) (take a.n (drop a.from a.t.now)) a.t.now a.to c.loop-i.i c.loop-i.c c.loop-i.t c.loop-i.invariant.1 (rw length-take (omega arith)))
