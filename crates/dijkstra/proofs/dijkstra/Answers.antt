-- `dijkstra::dijkstra` meets its contract. Assumes nothing.
use native.Mathlib.Nat.{lt_irrefl}
use native.Mathlib.Omega.{arith}
use Rattle.distance.proofs.Cost.{first_under, search-first, search-end, search-fits, settled-wide, search-less, search-under, search-more}
use Rattle.distance.proofs.Keys.{blocks-none}
use Rattle.distance.specs.Cost.{step_in, key_in}
use Rattle.dijkstra.proofs.dijkstra.Goals as goal

pub label-requires : goal.label-requires
label-requires c =
    (c.requires.0, c.requires.1, c.requires.2, c.requires.3, λ o. absurd (lt_irrefl 0 (omega (arith, o, c.requires.4 c.args.s c.requires.1))), blocks-none _ _ _ c.requires.4)

pub pick-u-requires : goal.pick-u-requires
pick-u-requires c =
    (c.requires.0, first_under (step_in c.args.c.now) (key_in c.args.c.now c.args.w.now) c.args.m.now c.args.d.now c.requires.0 c.requires.1 c.requires.2 c.requires.3 c.requires.4 c.label.ensures.0 c.label.ensures.1, c.label.ensures.2)

pub loop-u-init : goal.loop-u-init
loop-u-init c =
    (search-first (step_in c.args.c.now) (key_in c.args.c.now c.args.w.now) c.args.m.now c.args.d.now c.requires.0 c.requires.1 c.requires.2 c.requires.3 c.requires.4 c.label.ensures.0 c.label.ensures.1 c.pick-u.ensures, c.label.ensures.2)

pub relax-requires : goal.relax-requires
relax-requires c =
    let i = c.loop-u.invariant in
    let t = c.loop-u-test.true in
    let e = c.settle.ensures in
    (c.requires.0, t, settled-wide i.0 c.requires.0 c.requires.1 t _ e.0, i.0.0.long, search-fits i.0 c.requires.0 c.requires.1 t, e.1, c.requires.5, c.requires.6)

pub pick-u-requires-in-loop-u : goal.pick-u-requires-in-loop-u
pick-u-requires-in-loop-u c =
    let i = c.loop-u.invariant in
    let t = c.loop-u-test.true in
    let e = c.settle.ensures in
    let r = c.relax.ensures in
    (c.requires.0, search-under i.0 c.requires.0 c.requires.1 t e.0 r.0, r.1)

pub loop-u-smaller : goal.loop-u-smaller
loop-u-smaller c =
    let i = c.loop-u.invariant in
    let t = c.loop-u-test.true in
    let e = c.settle.ensures in
    let r = c.relax.ensures in
    search-less i.0 c.requires.0 c.requires.1 t e.0 r.0

pub loop-u-preserved : goal.loop-u-preserved
loop-u-preserved c =
    let i = c.loop-u.invariant in
    let t = c.loop-u-test.true in
    let e = c.settle.ensures in
    let r = c.relax.ensures in
    (search-more i.0 c.requires.0 c.requires.1 t e.0 r.0 c.pick-u-in-loop-u.ensures, r.1)

pub returns : goal.returns
returns c =
    search-end c.loop-u.invariant.0 c.requires.0 c.requires.1 c.loop-u-test.false
