-- `replay_reading::two` meets its contract. Assumes nothing.
use Rattle.replay.proofs.Bytes.{two_bytes}
use borrow.Author.Rules.{rules}
use Rattle.replay_reading.proofs.two.Goals as goal

pub returns : goal.returns
returns c = (search two_bytes, search rules)
