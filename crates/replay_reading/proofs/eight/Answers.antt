-- `replay_reading::eight` meets its contract. Assumes nothing.
use Rattle.replay.proofs.Bytes.{eight-bytes}
use Rattle.replay_reading.proofs.eight.Goals as goal

pub returns : goal.returns
returns c = search eight-bytes
