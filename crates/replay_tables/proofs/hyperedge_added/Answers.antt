-- `replay_tables::hyperedge_added` meets its contract. Assumes nothing.
use Rattle.replay.proofs.Replayed.{hyperedge-added}
use Rattle.replay_tables.proofs.hyperedge_added.Goals as goal

pub returns : goal.returns
returns c = search hyperedge-added
