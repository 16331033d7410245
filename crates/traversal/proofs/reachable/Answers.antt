-- `traversal::reachable` meets its contract. Assumes nothing.
use Rattle.layout.proofs.Answers.{taken}
use Rattle.traversal.proofs.Reaching.{first-missing}
use Rattle.steps.proofs.Members.{place_here}
use Rattle.traversal.proofs.reachable.Goals as goal

pub reached_from-requires-clause-t_value : goal.reached_from-requires-clause-t_value
reached_from-requires-clause-t_value c = search (place_here, taken, c.in_ok-i.was)

pub returns-in_err-i : goal.returns-in_err-i
returns-in_err-i c = search (first-missing, c.in_err-i.was)
