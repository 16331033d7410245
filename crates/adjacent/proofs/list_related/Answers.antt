-- `adjacent::list_related` meets its contract. Assumes nothing.
use Rattle.lookups.specs.Lookups.{related}
use Rattle.lookups.specs.Results.{related_result}
use Rattle.layout.proofs.Answers.{asked-missing, asked-found}
use Rattle.lookups.proofs.Marking.{marks-listed}
use Rattle.adjacent.proofs.list_related.Goals as goal

pub returns-in_err-ok_or : goal.returns-in_err-ok_or
unfolding related_result
returns-in_err-ok_or c = search (asked-missing, c.in_err-ok_or.was)

pub returns : goal.returns
unfolding related_result related
returns c = search (asked-found, marks-listed, c.in_ok-ok_or.was)
