-- `dijkstra_from::count_reached` meets its contract. Assumes nothing.
use mathlib.Core.Path.{refl}
use native.Mathlib.Omega.{arith}
use Rattle.lists.proofs.Count.{bit_le}
use Rattle.paths.specs.Written.{is_reached}
use Rattle.paths.proofs.Writing.{count_next, count-all}
use borrow.Author.Rules.{rules}
use Rattle.dijkstra_from.proofs.count_reached.Goals as goal

pub loop-v-init : goal.loop-v-init
loop-v-init c = (search rules, search rules, refl)

pub overflow_add-k : goal.overflow_add-k
overflow_add-k c = omega (arith, c.one_reached-k.ensures, bit_le (is_reached c.args.m.now c.loop-v.v))

pub loop-v-preserved : goal.loop-v-preserved
loop-v-preserved c = (search rules, omega (arith, c.one_reached-k.ensures, bit_le (is_reached c.args.m.now c.loop-v.v)), count_next c.args.m.now c.loop-v.v c.loop-v.k c.loop-v.invariant.2 _ c.one_reached-k.ensures)

pub returns : goal.returns
returns c = (search count-all, search rules)
