-- `distance::blocks::block_key` meets its contract: `Block` of the numbers before each. Assumes nothing.
use Rattle.distance.proofs.Keys.{block-first, block_more, block-end}
use borrow.Author.Rules.{rules}
use Rattle.distance.proofs.blocks.block_key.Goals as goal

pub loop-v-init : goal.loop-v-init
loop-v-init c = (search rules, search rules, search block-first)

pub loop-v-preserved : goal.loop-v-preserved
loop-v-preserved c = (
  search rules,
  search rules,
  block_more _ _ _ _ _ _ _ c.loop-v.invariant.2 c.block_end-end.ensures
      c.loop-v.invariant.0 c.loop-v-test.true _ c.open_key.ensures _ c.lesser-next.ensures,
)

pub returns : goal.returns
returns c = search block-end
