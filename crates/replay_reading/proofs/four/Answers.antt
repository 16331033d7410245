-- `replay_reading::four` meets its contract. Assumes nothing.
use Rattle.replay.proofs.Bytes.{four_bytes}
use Rattle.replay_reading.proofs.four.Goals as goal

pub returns : goal.returns
returns c = search four_bytes
