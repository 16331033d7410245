-- `distance::blocks::far` meets its contract. Assumes nothing.
use Rattle.distance.proofs.Keys.{far_none, far-off}
use Rattle.distance.proofs.blocks.far.Goals as goal

pub returns-then-mark-eq1 : goal.returns-then-mark-eq1
returns-then-mark-eq1 c = search far_none

pub returns : goal.returns
returns c = search far-off
