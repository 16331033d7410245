-- `dijkstra_from::get_dijkstra_from` meets its contract. Assumes nothing.
use Rattle.layout.proofs.Answers.{on-unformed, formed-by, on-formed}
use Rattle.dijkstra_from.proofs.get_dijkstra_from.Goals as goal

pub returns-then-not-well_formed : goal.returns-then-not-well_formed
returns-then-not-well_formed c = search on-unformed

pub from_formed-requires : goal.from_formed-requires
from_formed-requires c = search formed-by

pub returns : goal.returns
returns c = search on-formed
