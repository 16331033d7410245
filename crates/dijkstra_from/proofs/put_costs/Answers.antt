-- `dijkstra_from::put_costs` meets its contract: `Keyed` at each record. Assumes nothing.
use native.Mathlib.Omega.{arith}
use Rattle.layout.specs.Layout.{limit, read}
use Rattle.paths.proofs.Writing.{keyed-first, keyed-room, keyed-more, keyed-end}
use borrow.Author.Rules.{rules}
use Rattle.dijkstra_from.proofs.put_costs.Goals as goal

pub loop-v-init : goal.loop-v-init
loop-v-init c = (search rules, keyed-first (read limit c.args.t.now) c.args.m.now c.args.d.now c.args.out.now)

pub put_record-at-requires : goal.put_record-at-requires
put_record-at-requires c = record { formed = c.requires.formed; v_bound = (omega (arith, c.requires.n_value.0, c.loop-v-test.true), keyed-room (read limit c.args.t.now) c.args.m.now c.args.d.now c.loop-v.invariant.1 c.args.n c.requires.n_value.1 c.loop-v-test.true) }

pub loop-v-preserved : goal.loop-v-preserved
loop-v-preserved c = (search rules, keyed-more (read limit c.args.t.now) c.args.m.now c.args.d.now c.loop-v.invariant.1 c.args.n c.requires.n_value.1 c.loop-v-test.true _ _ c.put_record-at.ensures)

pub shape_of-out : goal.shape_of-out
shape_of-out c = c.loop-v.invariant.1.same

pub returns : goal.returns
returns c = keyed-end (read limit c.args.t.now) c.args.m.now c.args.d.now c.loop-v.invariant.1 c.args.n c.requires.n_value.1 c.loop-v.invariant.0 c.loop-v-test.false
