-- `traversal::traverse` meets its contract. Assumes nothing.
use Rattle.layout.proofs.Answers.{asked-missing, taken}
use Rattle.traversal.specs.Traversal.{traversal_result}
use Rattle.traversal.proofs.Reaching.{found_below}
use Rattle.traversal.proofs.Listing.{start-found}
use Rattle.traversal.proofs.traverse.Goals as goal

pub list_from-requires-clause-i_bound : goal.list_from-requires-clause-i_bound
list_from-requires-clause-i_bound c = search (found_below, taken, c.in_ok-i.was)

pub returns-in_err-i : goal.returns-in_err-i
unfolding traversal_result
returns-in_err-i c = search (asked-missing, c.in_err-i.was)

pub returns : goal.returns
returns c = search (start-found, taken, c.in_ok-i.was)
