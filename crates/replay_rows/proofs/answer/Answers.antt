-- `replay_rows::answer` meets its contract. Assumes nothing.
use Rattle.replay.proofs.Pathway.{path-judged, no-path-judged}
use Rattle.replay_rows.proofs.answer.Goals as goal

pub returns-then-g-ne0 : goal.returns-then-g-ne0
returns-then-g-ne0 c = search no-path-judged

pub returns : goal.returns
returns c = search path-judged
