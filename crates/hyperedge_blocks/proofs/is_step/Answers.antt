-- `hyperedge_blocks::is_step` meets its contract. Assumes nothing.
use Rattle.lookups.proofs.Laid.{step_is}
use Rattle.hyperedge_blocks.proofs.is_step.Goals as goal

pub returns : goal.returns
returns c = search step_is
