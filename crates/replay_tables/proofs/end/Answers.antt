-- `replay_tables::end` meets its contract. Assumes nothing.
use Rattle.replay.proofs.Replayed.{end-differs, more-follows, another-count, end_whole}
use Rattle.replay_tables.proofs.end.Goals as goal

pub returns-then-not-x : goal.returns-then-not-x
returns-then-not-x c = search end-differs

pub returns-then-x-s : goal.returns-then-x-s
returns-then-x-s c = search more-follows

pub returns-then-n-compared : goal.returns-then-n-compared
returns-then-n-compared c = search another-count

pub returns : goal.returns
returns c = search end_whole
