-- `replay_tables::hyperedge_updated` meets its contract. Assumes nothing.
use Rattle.replay.proofs.Replayed.{hyperedge-updated}
use Rattle.replay_tables.proofs.hyperedge_updated.Goals as goal

pub returns : goal.returns
returns c = search hyperedge-updated
