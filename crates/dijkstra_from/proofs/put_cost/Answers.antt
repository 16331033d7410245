-- `dijkstra_from::put_cost` meets its contract. Assumes nothing.
use Rattle.paths.proofs.Writing.{cost-laid}
use Rattle.dijkstra_from.proofs.put_cost.Goals as goal

pub returns : goal.returns
returns c = search cost-laid
