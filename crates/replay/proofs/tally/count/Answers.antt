-- `replay::tally::count` meets its contract. Assumes nothing.
use Rattle.replay.proofs.Tallied.{count-differing, count_same, count-nothing}
use Rattle.replay.proofs.tally.count.Goals as goal

pub returns-then-not-same : goal.returns-then-not-same
returns-then-not-same c = search count-differing

pub returns-else-not-same : goal.returns-else-not-same
returns-else-not-same c = search count_same

pub returns-else-f-half : goal.returns-else-f-half
returns-else-f-half c = search count-nothing
