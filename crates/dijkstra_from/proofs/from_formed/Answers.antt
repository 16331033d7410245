-- `dijkstra_from::from_formed` meets its contract. Assumes nothing.
use Rattle.layout.proofs.Answers.{asked-missing, taken}
use Rattle.paths.specs.Paths.{from_result}
use Rattle.paths.proofs.Answers.{found_below, start-found}
use Rattle.dijkstra_from.proofs.from_formed.Goals as goal

pub list_costs-requires-clause-i_bound : goal.list_costs-requires-clause-i_bound
list_costs-requires-clause-i_bound c = search (found_below, taken, c.in_ok-i.was)

pub returns-in_err-i : goal.returns-in_err-i
unfolding from_result
returns-in_err-i c = search (asked-missing, c.in_err-i.was)

pub returns : goal.returns
returns c = search (start-found, taken, c.in_ok-i.was)
