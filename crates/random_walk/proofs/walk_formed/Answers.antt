-- `random_walk::walk_formed` meets its contract. Assumes nothing.
use Rattle.layout.proofs.Answers.{asked-missing, asked-found}
use Rattle.walk.specs.Walk.{walk_result}
use Rattle.random_walk.proofs.walk_formed.Goals as goal

pub returns-in_err-ok_or : goal.returns-in_err-ok_or
unfolding walk_result
returns-in_err-ok_or c = search (asked-missing, c.in_err-ok_or.was)

pub returns : goal.returns
unfolding walk_result
returns c = search (asked-found, c.in_ok-ok_or.was)
