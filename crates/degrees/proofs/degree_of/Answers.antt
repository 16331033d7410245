-- `degrees::degree_of` meets its contract. Assumes nothing.
use Rattle.lookups.specs.Results.{degree_result}
use Rattle.layout.proofs.Answers.{asked-missing}
use Rattle.lookups.proofs.Found.{asked-done}
use Rattle.degrees.proofs.degree_of.Goals as goal

pub returns-in_err-ok_or : goal.returns-in_err-ok_or
unfolding degree_result
returns-in_err-ok_or c = search (asked-missing, c.in_err-ok_or.was)

pub returns : goal.returns
unfolding degree_result
returns c = search (asked-done, c.in_ok-ok_or.was)
