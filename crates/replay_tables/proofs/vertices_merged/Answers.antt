-- `replay_tables::vertices_merged` meets its contract. Assumes nothing.
use Rattle.replay.proofs.Replayed.{vertices-merged}
use Rattle.replay_tables.proofs.vertices_merged.Goals as goal

pub returns : goal.returns
returns c = search vertices-merged
