-- `replay_reading::join` meets its contract. Assumes nothing.
use Rattle.replay.proofs.Bytes.{joined}
use Rattle.replay_reading.proofs.join.Goals as goal

pub returns : goal.returns
returns c = search joined
