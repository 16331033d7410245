-- `hyperedge_blocks::block_length` meets its contract. Assumes nothing.
use Rattle.lookups.proofs.Laid.{connecting-length, weighing-none, weighing-one, holding-none, holding-length}
use Rattle.hyperedge_blocks.proofs.block_length.Goals as goal

pub returns-then-hyperedge_weight-w : goal.returns-then-hyperedge_weight-w
returns-then-hyperedge_weight-w c = search weighing-none

pub returns-then-not-holds : goal.returns-then-not-holds
returns-then-not-holds c = search holding-none

pub returns-in-Connecting : goal.returns-in-Connecting
returns-in-Connecting c = search connecting-length

pub returns-else-hyperedge_weight-w : goal.returns-else-hyperedge_weight-w
returns-else-hyperedge_weight-w c = search weighing-one

pub returns-else-not-holds : goal.returns-else-not-holds
returns-else-not-holds c = search holding-length
