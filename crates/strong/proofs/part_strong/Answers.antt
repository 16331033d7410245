-- `strong::part_strong` meets its contract. Assumes nothing.
use Prim.Native.Nat.{◌<◌, ◌-◌}
use native.Mathlib.Omega.{arith}
use lib.ListN.{get_or}
use Rattle.graph.specs.Reach.{matrix}
use Rattle.strong.proofs.Latest.{latest-first, latest-root, latest-room, latest-more, parting-free, latest-end}
use Rattle.strong.proofs.part_strong.Goals as goal

pub loop-k-init : goal.loop-k-init
loop-k-init c = (omega arith, latest-first (matrix c.args.adj.now) c.args.n c.requires.0 c.finish_order-t.ensures)

pub try_root-c-requires : goal.try_root-c-requires
try_root-c-requires c = let rooted : get_or c.finish_order-t.new.order (c.loop-k.k - 1) 0 < c.args.n = latest-root (matrix c.args.adj.now) c.args.n c.requires.0 c.finish_order-t.ensures (c.loop-k.k - 1) (omega (arith, c.loop-k.invariant.0, c.loop-k-test.true)) in let f = c.finish_order-t.ensures in (
  c.requires.0,
  rooted,
  latest-room (matrix c.args.adj.now) c.args.n c.requires.0 f c.loop-k.invariant.1 c.loop-k-test.true c.loop-k.invariant.0,
  c.loop-k.invariant.1.parted.wide,
  c.requires.1,
  parting-free (matrix c.args.adj.now) c.loop-k.invariant.1,
)

pub loop-k-preserved : goal.loop-k-preserved
loop-k-preserved c =
    let f = c.finish_order-t.ensures in
    (omega arith, latest-more (matrix c.args.adj.now) c.args.n c.requires.0 f c.loop-k.invariant.1 c.loop-k-test.true c.loop-k.invariant.0 c.try_root-c.ensures)

pub returns : goal.returns
returns c =
    latest-end (matrix c.args.adj.now) c.args.n c.requires.0 c.finish_order-t.ensures c.loop-k.invariant.1 c.loop-k-test.false
