-- `random_walk::list_walk` meets its contract. Assumes nothing.
use Rattle.walk.proofs.Walked.{walk-over, walk-fits}
use Rattle.random_walk.proofs.list_walk.Goals as goal

pub returns-then-out-n : goal.returns-then-out-n
returns-then-out-n c = search walk-over

pub returns : goal.returns
returns c = search walk-fits
