-- `replay_judge::listing` meets its contract. Assumes nothing.
use Rattle.replay.specs.Judging.{listing_at}
use Rattle.replay.proofs.Judging.{listing-judged, refusal-judged}
use Rattle.replay_judge.proofs.listing.Goals as goal

pub returns-then-g-ne0 : goal.returns-then-g-ne0
unfolding listing_at
returns-then-g-ne0 c = search refusal-judged

pub returns : goal.returns
returns c = search listing-judged
