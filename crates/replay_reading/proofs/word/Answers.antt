-- `replay_reading::word` meets its contract. Assumes nothing.
use Rattle.replay.proofs.Bytes.{word-short, word-of-two, word-of-four}
use Rattle.replay_reading.proofs.word.Goals as goal

pub returns-then-first-lt254 : goal.returns-then-first-lt254
returns-then-first-lt254 c = search word-short

pub returns-then-first-eq254 : goal.returns-then-first-eq254
returns-then-first-eq254 c = search word-of-two

pub returns : goal.returns
returns c = search word-of-four
