-- `replay_rows::is_whole` meets its contract. Assumes nothing.
use Rattle.replay.proofs.Pathway.{whole-then, whole-else}
use Rattle.replay_rows.proofs.is_whole.Goals as goal

pub returns-then-r-eq0 : goal.returns-then-r-eq0
returns-then-r-eq0 c = search whole-then

pub returns-else-r-eq0 : goal.returns-else-r-eq0
returns-else-r-eq0 c = search whole-else
