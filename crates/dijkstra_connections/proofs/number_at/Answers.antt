-- `dijkstra_connections::number_at` meets its contract. Assumes nothing.
use Rattle.paths.proofs.Writing.{number-none, number_past, number-here}
use Rattle.dijkstra_connections.proofs.number_at.Goals as goal

pub returns-then-k-eq0 : goal.returns-then-k-eq0
returns-then-k-eq0 c = search number-none

pub returns-then-hyperedge_count-k : goal.returns-then-hyperedge_count-k
returns-then-hyperedge_count-k c = search number_past

pub returns : goal.returns
returns c = search number-here
