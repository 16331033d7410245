-- `traversal::reached_from` meets its contract. Assumes nothing.
use Rattle.layout.proofs.Answers.{taken}
use Rattle.traversal.proofs.Reaching.{record-below, found_below, second-missing, both_found}
use Rattle.traversal.proofs.reached_from.Goals as goal

pub reached-requires-clause-i_bound : goal.reached-requires-clause-i_bound
reached-requires-clause-i_bound c = (search record-below, search (found_below, taken, c.in_ok-j.was))

pub returns-in_err-j : goal.returns-in_err-j
returns-in_err-j c = search (second-missing, c.in_err-j.was)

pub returns : goal.returns
returns c = search (both_found, taken, c.in_ok-j.was)
