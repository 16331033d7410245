-- `depth::finish_order` meets its contract. Assumes nothing.
use Rattle.depth.proofs.Swept.{swept-first, swept-more, swept-end}
use Rattle.depth.proofs.finish_order.Goals as goal

pub loop-x-init : goal.loop-x-init
loop-x-init c = swept-first c.requires

pub start_at-t-requires : goal.start_at-t-requires
start_at-t-requires c = (c.loop-x-test.true, c.loop-x.invariant.fit)

pub loop-x-preserved : goal.loop-x-preserved
loop-x-preserved c = swept-more c.loop-x.invariant c.loop-x-test.true c.start_at-t.ensures

pub returns : goal.returns
returns c = swept-end c.loop-x.invariant c.loop-x-test.false
