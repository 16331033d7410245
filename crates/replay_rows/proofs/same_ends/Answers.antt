-- `replay_rows::same_ends` meets its contract. Assumes nothing.
use Rattle.replay.proofs.Pathway.{no-entries, ends-then, ends-else}
use Rattle.replay_rows.proofs.same_ends.Goals as goal

pub returns-then-n-eq0 : goal.returns-then-n-eq0
returns-then-n-eq0 c = search no-entries

pub returns-then-begins : goal.returns-then-begins
returns-then-begins c = search ends-then

pub returns-else-begins : goal.returns-else-begins
returns-else-begins c = search ends-else
