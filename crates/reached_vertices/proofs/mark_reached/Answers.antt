-- `reached_vertices::mark_reached` meets its contract. Assumes nothing.
use Rattle.reached_vertices.proofs.Walks.{seen-along}
use Rattle.reached_vertices.proofs.mark_reached.Goals as goal

pub returns : goal.returns
returns c = search seen-along
