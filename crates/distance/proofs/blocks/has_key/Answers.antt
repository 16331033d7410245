-- `distance::blocks::has_key` meets its contract. Assumes nothing.
use Rattle.distance.proofs.Keys.{has-no-mark, has-key}
use Rattle.distance.proofs.blocks.has_key.Goals as goal

pub returns-then-m-v-ne1 : goal.returns-then-m-v-ne1
returns-then-m-v-ne1 c = search has-no-mark

pub returns : goal.returns
returns c = search has-key
