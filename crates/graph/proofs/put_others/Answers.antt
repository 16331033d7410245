-- `graph::put_others` meets its contract: `Laid` at each number. Assumes nothing.
use Rattle.graph.proofs.Outside.{byte_le}
use Rattle.graph.proofs.Sifted.{laid-first, laid_more, laid_end}
use native.Mathlib.Omega.{arith}
use mathlib.Core.Bool.{not}
use lib.Dec.{eqb}
use Rattle.graph.proofs.put_others.Goals as goal

pub loop-j-init : goal.loop-j-init
loop-j-init c = laid-first c.requires.2

pub overflow_cast-rest : goal.overflow_cast-rest
overflow_cast-rest c = omega arith

pub offset_bounds-rest-w : goal.offset_bounds-rest-w
offset_bounds-rest-w c = omega arith

pub bounds-rest-w : goal.bounds-rest-w
bounds-rest-w c = omega arith

pub overflow_cast-w : goal.overflow_cast-w
overflow_cast-w c = omega arith

pub overflow_add-w : goal.overflow_add-w
overflow_add-w c = omega (arith, byte_le (not (eqb c.loop-j.j c.args.start)))

pub loop-j-preserved : goal.loop-j-preserved
loop-j-preserved c = laid_more c.loop-j.invariant c.requires.0 c.loop-j-test.true

pub returns : goal.returns
returns c = laid_end c.loop-j.invariant c.requires.0 c.requires.1 c.loop-j-test.false
