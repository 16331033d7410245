-- `replay_rows::begins` meets its contract. Assumes nothing.
use Rattle.replay.proofs.Pathway.{begins-then, begins-else}
use Rattle.replay_rows.proofs.begins.Goals as goal

pub returns-then-word_of-e : goal.returns-then-word_of-e
returns-then-word_of-e c = search begins-then

pub returns-else-word_of-e : goal.returns-else-word_of-e
returns-else-word_of-e c = search begins-else
