-- `random_walk::cut` meets its contract. Assumes nothing.
use Rattle.walk.proofs.Walked.{cut_short, cut-long}
use borrow.Author.Rules.{rules}
use Rattle.random_walk.proofs.cut.Goals as goal

pub returns-then-steps-le-STEP_LIMIT : goal.returns-then-steps-le-STEP_LIMIT
returns-then-steps-le-STEP_LIMIT c = (search cut_short, search rules)

pub returns : goal.returns
returns c = (search cut-long, search rules)
