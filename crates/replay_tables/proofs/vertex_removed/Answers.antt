-- `replay_tables::vertex_removed` meets its contract. Assumes nothing.
use Rattle.replay.proofs.Replayed.{vertex-removed}
use Rattle.replay_tables.proofs.vertex_removed.Goals as goal

pub returns : goal.returns
returns c = search vertex-removed
