-- `random_walk::first_state` meets its contract. Assumes nothing.
use Rattle.walk.proofs.Walked.{state-one, state-seed}
use Rattle.random_walk.proofs.first_state.Goals as goal

pub returns-then-seed-eq0 : goal.returns-then-seed-eq0
returns-then-seed-eq0 c = search state-one

pub returns : goal.returns
returns c = search state-seed
