-- `dijkstra_connections::pair_formed` meets its contract. Assumes nothing.
use Rattle.layout.proofs.Answers.{taken}
use Rattle.steps.proofs.Members.{place_here}
use Rattle.paths.proofs.Answers.{first-missing}
use Rattle.dijkstra_connections.proofs.pair_formed.Goals as goal

pub pair_from-requires-clause-t_value : goal.pair_from-requires-clause-t_value
pair_from-requires-clause-t_value c = search (place_here, taken, c.in_ok-i.was)

pub returns-in_err-i : goal.returns-in_err-i
returns-in_err-i c = search (first-missing, c.in_err-i.was)
