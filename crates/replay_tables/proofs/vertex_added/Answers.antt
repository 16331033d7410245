-- `replay_tables::vertex_added` meets its contract. Assumes nothing.
use Rattle.replay.proofs.Replayed.{vertex-added}
use Rattle.replay_tables.proofs.vertex_added.Goals as goal

pub returns : goal.returns
returns c = search vertex-added
