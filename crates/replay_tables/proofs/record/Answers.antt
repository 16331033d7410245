-- `replay_tables::record` meets its contract. Assumes nothing.
use Rattle.replay_tables.proofs.ByKind.{record-unknown}
use Rattle.replay_tables.proofs.record.Goals as goal

pub returns-in-None : goal.returns-in-None
returns-in-None c = search record-unknown
