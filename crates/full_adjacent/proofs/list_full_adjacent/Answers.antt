-- `full_adjacent::list_full_adjacent` meets its contract. Assumes nothing.
use Rattle.lookups.specs.Results.{full_adjacent_result}
use Rattle.layout.proofs.Answers.{asked-missing, asked-found}
use Rattle.full_adjacent.proofs.list_full_adjacent.Goals as goal

pub returns-in_err-ok_or : goal.returns-in_err-ok_or
unfolding full_adjacent_result
returns-in_err-ok_or c = search (asked-missing, c.in_err-ok_or.was)

pub returns : goal.returns
unfolding full_adjacent_result
returns c = search (asked-found, c.in_ok-ok_or.was)
