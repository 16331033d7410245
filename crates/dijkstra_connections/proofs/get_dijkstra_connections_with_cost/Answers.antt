-- `dijkstra_connections::get_dijkstra_connections_with_cost` meets its contract. Assumes nothing.
use Rattle.layout.proofs.Answers.{on-unformed, formed-by, on-formed}
use Rattle.dijkstra_connections.proofs.get_dijkstra_connections_with_cost.Goals as goal

pub returns-then-not-well_formed : goal.returns-then-not-well_formed
returns-then-not-well_formed c = search on-unformed

pub pair_formed-requires : goal.pair_formed-requires
pair_formed-requires c = search formed-by

pub returns : goal.returns
returns c = search on-formed
