-- `distance::blocks::open_key` meets its contract. Assumes nothing.
use Rattle.distance.proofs.Keys.{open-far, open-near}
use Rattle.distance.proofs.blocks.open_key.Goals as goal

pub returns-then-key-f : goal.returns-then-key-f
returns-then-key-f c = search open-far

pub returns : goal.returns
returns c = search open-near
