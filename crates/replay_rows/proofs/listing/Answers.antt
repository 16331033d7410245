-- `replay_rows::listing` meets its contract. Assumes nothing.
use Rattle.replay.specs.Judging.{lists_read}
use Rattle.replay.proofs.Judging.{lists-judged, refusal-judged}
use Rattle.replay_rows.proofs.listing.Goals as goal

pub returns-then-g-ne0 : goal.returns-then-g-ne0
unfolding lists_read
returns-then-g-ne0 c = search refusal-judged

pub returns : goal.returns
returns c = search lists-judged
