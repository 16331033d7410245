-- `hyperedge_blocks::write_block` meets its contract. Assumes nothing.
use Rattle.lookups.proofs.Laid.{connecting-length, weighing-none, weighing-one, connecting-fits, connecting-wrote, weighing-kept, weighing-room, weighing-wrote, holding-fits, holding-count, holding-wrote}
use borrow.Author.Rules.{rules}
use Rattle.hyperedge_blocks.proofs.write_block.Goals as goal

pub repeat-requires : goal.repeat-requires
repeat-requires c = search connecting-fits

pub returns-then-hyperedge_weight-w : goal.returns-then-hyperedge_weight-w
returns-then-hyperedge_weight-w c = record { value = search weighing-none; out_after = search weighing-kept }

pub bounds-out-0 : goal.bounds-out-0
bounds-out-0 c = search weighing-room

pub write_held-requires : goal.write_held-requires
write_held-requires c = record { formed = search rules; j_bound = (search rules, search holding-fits) }

pub returns-in-Connecting : goal.returns-in-Connecting
returns-in-Connecting c = record { value = search connecting-length; out_after = search connecting-wrote }

pub returns-else-hyperedge_weight-w : goal.returns-else-hyperedge_weight-w
returns-else-hyperedge_weight-w c = record { value = search weighing-one; out_after = search weighing-wrote }

pub returns-in-Holding : goal.returns-in-Holding
returns-in-Holding c = record { value = search holding-count; out_after = search holding-wrote }
