-- `replay_rows::same_path` meets its contract. Assumes nothing.
use Rattle.replay.proofs.Pathway.{too_many_lem, not-whole, path-then, path-else}
use Rattle.replay_rows.proofs.same_path.Goals as goal

pub returns-then-n-e : goal.returns-then-n-e
returns-then-n-e c = search too_many_lem

pub returns-then-not-is_whole : goal.returns-then-not-is_whole
returns-then-not-is_whole c = search not-whole

pub returns-then-same_cost : goal.returns-then-same_cost
returns-then-same_cost c = search path-then

pub returns-else-same_cost : goal.returns-else-same_cost
returns-else-same_cost c = search path-else
