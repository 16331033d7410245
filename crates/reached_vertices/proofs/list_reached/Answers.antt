-- `reached_vertices::list_reached` meets its contract. Assumes nothing.
use Rattle.reached_vertices.proofs.Seen.{reached-listed}
use Rattle.reached_vertices.proofs.list_reached.Goals as goal

pub returns : goal.returns
returns c = search reached-listed
