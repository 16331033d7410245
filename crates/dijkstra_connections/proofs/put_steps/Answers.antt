-- `dijkstra_connections::put_steps` meets its contract: `Putting` at each step. Assumes nothing.
use mathlib.Core.Path.{sym}
use native.Mathlib.Omega.{arith}
use lib.ListN.{take}
use lib.Seq.{get_or-take}
use Rattle.layout.specs.Layout.{limit, vertex_count, read}
use Rattle.paths.proofs.Writing.{laid-size, laid-at, putting-first, putting-more, putting-end}
use Rattle.dijkstra_connections.proofs.put_steps.Goals as goal

pub loop-k-init : goal.loop-k-init
loop-k-init c = putting-first (read limit c.args.t.now) (vertex_count c.args.t.now) c.args.i (take c.args.steps c.args.walk.now) c.args.out.now (omega (arith, laid-size c.requires.chosen.2 c.requires.formed.shape.vertices-le, c.requires.chosen.3)) c.requires.chosen.1

pub overflow_cast-b : goal.overflow_cast-b
overflow_cast-b c = omega (arith, laid-at c.requires.chosen.2 c.requires.formed.shape.vertices-le c.loop-k.k c.loop-k-test.true, c.requires.formed.shape.vertices-le)

pub put_step-requires : goal.put_step-requires
put_step-requires c = record { formed = c.requires.formed; chosen = (c.requires.chosen.0, c.loop-k.invariant.below, laid-at c.requires.chosen.2 c.requires.formed.shape.vertices-le c.loop-k.k c.loop-k-test.true, omega (arith, c.loop-k.invariant.same, c.requires.chosen.3, c.loop-k-test.true)) }

pub loop-k-preserved : goal.loop-k-preserved
loop-k-preserved c =
    let h = c.loop-k-test.true in
    putting-more (read limit c.args.t.now) (vertex_count c.args.t.now) c.args.i (take c.args.steps c.args.walk.now) c.args.out.now (omega (arith, laid-size c.requires.chosen.2 c.requires.formed.shape.vertices-le, c.requires.chosen.3)) c.loop-k.invariant _ (omega (arith, laid-size c.requires.chosen.2 c.requires.formed.shape.vertices-le, h))
    (laid-at c.requires.chosen.2 c.requires.formed.shape.vertices-le c.loop-k.k h) (sym (get_or-take c.args.steps c.args.walk.now c.loop-k.k 0 h)) _ c.put_step.ensures

pub shape_of-out : goal.shape_of-out
shape_of-out c = c.loop-k.invariant.same

pub returns : goal.returns
returns c = putting-end (read limit c.args.t.now) (vertex_count c.args.t.now) c.args.i (take c.args.steps c.args.walk.now) c.args.out.now (omega (arith, laid-size c.requires.chosen.2 c.requires.formed.shape.vertices-le, c.requires.chosen.3)) c.loop-k.invariant (omega (arith, laid-size c.requires.chosen.2 c.requires.formed.shape.vertices-le, c.loop-k-test.false))
