-- `strong::touch` meets its contract: the three ways are the three laws of `push`.
-- Assumes nothing.
use Rattle.graph.proofs.Bfs.{push-new, push-none, push-old}
use Rattle.graph.proofs.Held.{held-as, held_new, held-room, held_more}
use Rattle.components.specs.Parts.{flagged}
use Rattle.strong.specs.State.{inside}
use Rattle.strong.proofs.Inside.{held-old, inside-no-step, inside-shut, inside-step}
use Rattle.graph.specs.Reach.{matrix}
use borrow.Author.Tests.{eq-eqb, ne_eqb}
use Prim.Native.Nat.{◌<◌}
use native.Mathlib.Omega.{arith}
use lib.ListN.{take}
use Rattle.strong.proofs.touch.Goals as goal

pub returns-then-adj-x-ne1 : goal.returns-then-adj-x-ne1
returns-then-adj-x-ne1 c =
    held-as c.requires.3 (push-none ((inside (matrix c.args.adj.now) (flagged c.args.free.now))) c.args.x ((take c.args.tail c.args.order.now)) c.args.j (inside-no-step (matrix c.args.adj.now) (flagged c.args.free.now) c.args.x c.args.j (ne_eqb _ 1 c.if-adj-x-ne1.true)))

pub returns-then-free-j-ne1 : goal.returns-then-free-j-ne1
returns-then-free-j-ne1 c =
    held-as c.requires.3 (push-none ((inside (matrix c.args.adj.now) (flagged c.args.free.now))) c.args.x ((take c.args.tail c.args.order.now)) c.args.j (inside-shut (matrix c.args.adj.now) (flagged c.args.free.now) c.args.x c.args.j (ne_eqb _ 1 c.if-free-j-ne1.true)))

pub returns-then-marks-j-ne0 : goal.returns-then-marks-j-ne0
returns-then-marks-j-ne0 c =
    held-as c.requires.3 (push-old ((inside (matrix c.args.adj.now) (flagged c.args.free.now))) c.args.x ((take c.args.tail c.args.order.now)) c.args.j (held-old c.requires.3 c.requires.2 c.if-marks-j-ne0.true))

pub offset_bounds-order-tail : goal.offset_bounds-order-tail
offset_bounds-order-tail c = let fits : c.args.tail < 256 = omega (arith, held-room c.requires.3 c.requires.2 c.if-marks-j-ne0.false) in omega (arith, fits)

pub bounds-order-tail : goal.bounds-order-tail
bounds-order-tail c = let fits : c.args.tail < 256 = omega (arith, held-room c.requires.3 c.requires.2 c.if-marks-j-ne0.false) in fits

pub overflow_add-result : goal.overflow_add-result
overflow_add-result c = let fits : c.args.tail < 256 = omega (arith, held-room c.requires.3 c.requires.2 c.if-marks-j-ne0.false) in omega (arith, fits)

pub returns : goal.returns
returns c =
    let h = c.requires.3 in
    held-as
    (held_more h c.requires.2 c.requires.0 c.if-marks-j-ne0.false)
    (push-new ((inside (matrix c.args.adj.now) (flagged c.args.free.now))) c.args.x ((take c.args.tail c.args.order.now)) c.args.j
    (inside-step (matrix c.args.adj.now) (flagged c.args.free.now) c.args.x c.args.j (eq-eqb _ 1 c.if-adj-x-ne1.false) (eq-eqb _ 1 c.if-free-j-ne1.false))
    (held_new h c.requires.2 c.if-marks-j-ne0.false))
