-- `dijkstra::descend` meets its contract. Assumes nothing.
use Rattle.distance.proofs.Descent.{down-first, down-there, down-lost, down-short, down-more}
use native.Mathlib.Omega.{arith}
use Rattle.dijkstra.proofs.descend.Goals as goal

pub loop-at-init : goal.loop-at-init
loop-at-init c = down-first _ _ _ _ _ _ c.requires.1 c.requires.2

pub offset_bounds-d-u : goal.offset_bounds-d-u
offset_bounds-d-u c = omega (arith, c.loop-at.invariant.below, c.requires.0)

pub bounds-d-u : goal.bounds-d-u
bounds-d-u c = omega (arith, c.loop-at.invariant.below, c.requires.0)

pub returns-then-d-u-eq0 : goal.returns-then-d-u-eq0
returns-then-d-u-eq0 c = down-there _ _ _ _ _ _ c.loop-at.invariant c.if-d-u-eq0.true

pub hop_from-next-requires : goal.hop_from-next-requires
hop_from-next-requires c = (c.requires.0, c.loop-at.invariant.below, c.requires.3)

pub returns-then-n-next : goal.returns-then-n-next
returns-then-n-next c = down-lost _ _ _ _ _ _ c.loop-at.invariant c.hop_from-next.result c.hop_from-next.ensures c.if-n-next.true

pub overflow_cast-out : goal.overflow_cast-out
overflow_cast-out c = omega (arith, c.requires.0)

pub offset_bounds-out-at : goal.offset_bounds-out-at
offset_bounds-out-at c = omega (arith, c.requires.0)

pub bounds-out-at : goal.bounds-out-at
bounds-out-at c = omega (arith, c.requires.0)

pub loop-at-preserved : goal.loop-at-preserved
loop-at-preserved c = down-more _ _ _ _ _ _ c.loop-at.invariant c.hop_from-next.result c.requires.0 c.loop-at-test.true c.if-d-u-eq0.false c.hop_from-next.ensures c.if-n-next.false

pub returns : goal.returns
returns c = down-short _ _ _ _ _ _ c.loop-at.invariant c.loop-at-test.false
