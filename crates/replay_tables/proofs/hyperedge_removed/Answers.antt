-- `replay_tables::hyperedge_removed` meets its contract. Assumes nothing.
use Rattle.replay.proofs.Replayed.{hyperedge-removed}
use Rattle.replay_tables.proofs.hyperedge_removed.Goals as goal

pub returns : goal.returns
returns c = search hyperedge-removed
