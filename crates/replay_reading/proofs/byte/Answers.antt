-- `replay_reading::byte` meets its contract. Assumes nothing.
use Rattle.replay.proofs.Bytes.{byte-there, byte-lost}
use borrow.Author.Rules.{rules}
use Rattle.replay_reading.proofs.byte.Goals as goal

pub returns-then-at-s : goal.returns-then-at-s
returns-then-at-s c = (search byte-there, search rules)

pub returns : goal.returns
returns c = (search byte-lost, search rules)
