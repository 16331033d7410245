-- `replay_tables::table` meets its contract. Assumes nothing.
use Rattle.replay.proofs.Replayed.{table-summed}
use Rattle.replay_tables.proofs.table.Goals as goal

pub returns : goal.returns
returns c = search table-summed
