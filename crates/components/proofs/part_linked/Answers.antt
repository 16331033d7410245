-- `components::part_linked` meets its contract. Assumes nothing.
use native.Mathlib.Omega.{arith}
use Rattle.graph.specs.Reach.{matrix}
use Rattle.components.proofs.Linked.{linked-first, linked-room, linked-more, linked-end}
use Rattle.components.proofs.part_linked.Goals as goal

pub loop-r-init : goal.loop-r-init
loop-r-init c = (omega arith, linked-first (matrix c.args.adj.now) c.args.n c.requires.0)

pub try_root-c-requires : goal.try_root-c-requires
try_root-c-requires c =
    (c.requires.0, c.loop-r-test.true, linked-room (matrix c.args.adj.now) c.args.n c.requires.1 c.loop-r.invariant.1 c.requires.0 c.loop-r-test.true, c.loop-r.invariant.1.parted.wide)

pub loop-r-preserved : goal.loop-r-preserved
loop-r-preserved c =
    (omega arith, linked-more (matrix c.args.adj.now) c.args.n c.requires.1 c.loop-r.invariant.1 c.loop-r-test.true c.try_root-c.ensures)

pub returns : goal.returns
returns c =
    linked-end (matrix c.args.adj.now) c.args.n c.requires.1 c.loop-r.invariant.1 c.loop-r-test.false
