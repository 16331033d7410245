-- `replay_rows::same_cost` meets its contract. Assumes nothing.
use Rattle.replay.proofs.Pathway.{cost-then, cost-else}
use Rattle.replay_rows.proofs.same_cost.Goals as goal

pub returns-then-word_of-e : goal.returns-then-word_of-e
returns-then-word_of-e c = search cost-then

pub returns-else-word_of-e : goal.returns-else-word_of-e
returns-else-word_of-e c = search cost-else
