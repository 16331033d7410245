-- `graph::expand` meets its contract: `Sifted` at each of the numbers outside the queue. Assumes nothing.
use Rattle.graph.specs.Reach.{matrix}
use Rattle.graph.proofs.Held.{held-short}
use Rattle.graph.proofs.Outside.{byte_le}
use Rattle.graph.proofs.Sifted.{sifted-first, sifted-below, sifted-more, sifted-end}
use mathlib.Core.Path.{refl}
use native.Mathlib.Omega.{arith}
use lib.ListN.{get_or}
use Rattle.graph.proofs.expand.Goals as goal

pub overflow_sub-c : goal.overflow_sub-c
overflow_sub-c c = omega (arith, held-short c.requires.2.held)

pub loop-k-init : goal.loop-k-init
loop-k-init c = sifted-first c.requires.0 c.requires.2

pub offset_bounds-rest-k : goal.offset_bounds-rest-k
offset_bounds-rest-k c = omega arith

pub bounds-rest-k : goal.bounds-rest-k
bounds-rest-k c = omega arith

pub overflow_cast-j : goal.overflow_cast-j
overflow_cast-j c = omega (arith, sifted-below c.loop-k.invariant c.loop-k-test.true)

pub overflow_mul-leads : goal.overflow_mul-leads
overflow_mul-leads c = omega arith

pub overflow_add-leads : goal.overflow_add-leads
overflow_add-leads c = omega (arith, sifted-below c.loop-k.invariant c.loop-k-test.true)

pub bounds-adj-x : goal.bounds-adj-x
bounds-adj-x c = omega (arith, sifted-below c.loop-k.invariant c.loop-k-test.true)

pub overflow_cast-order : goal.overflow_cast-order
overflow_cast-order c = omega (arith, sifted-below c.loop-k.invariant c.loop-k-test.true)

pub offset_bounds-order-end : goal.offset_bounds-order-end
offset_bounds-order-end c = omega arith

pub bounds-order-end : goal.bounds-order-end
bounds-order-end c = omega arith

pub overflow_cast-rest : goal.overflow_cast-rest
overflow_cast-rest c = omega (arith, sifted-below c.loop-k.invariant c.loop-k-test.true)

pub overflow_add-rest : goal.overflow_add-rest
overflow_add-rest c = omega arith

pub overflow_sub-rest : goal.overflow_sub-rest
overflow_sub-rest c = omega arith

pub offset_bounds-rest-tail : goal.offset_bounds-rest-tail
offset_bounds-rest-tail c = omega arith

pub bounds-rest-tail : goal.bounds-rest-tail
bounds-rest-tail c = omega arith

pub overflow_cast-marks : goal.overflow_cast-marks
overflow_cast-marks c = omega arith

pub bounds-marks-j : goal.bounds-marks-j
bounds-marks-j c = omega (arith, sifted-below c.loop-k.invariant c.loop-k-test.true)

pub overflow_cast-end : goal.overflow_cast-end
overflow_cast-end c = omega arith

pub overflow_add-end : goal.overflow_add-end
overflow_add-end c = omega (arith, byte_le (matrix c.args.adj.now c.args.x (get_or c.loop-k.rest c.loop-k.k 0)))

pub loop-k-preserved : goal.loop-k-preserved
loop-k-preserved c = sifted-more c.loop-k.invariant c.loop-k-test.true c.requires.0 _ refl

pub returns : goal.returns
returns c = sifted-end c.loop-k.invariant c.loop-k-test.false (held-short c.requires.2.held)
