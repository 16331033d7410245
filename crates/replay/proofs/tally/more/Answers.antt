-- `replay::tally::more` meets its contract. Assumes nothing.
use Rattle.replay.proofs.Tallied.{one_more_lem, none_more}
use Rattle.replay.proofs.tally.more.Goals as goal

pub returns-then-i-tally : goal.returns-then-i-tally
returns-then-i-tally c = search one_more_lem

pub returns-else-i-tally : goal.returns-else-i-tally
returns-else-i-tally c = search none_more
