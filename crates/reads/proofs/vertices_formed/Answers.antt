-- `reads::vertices_formed` meets its contract. Assumes nothing.
use Rattle.reads.proofs.Columns.{vertices-listed}
use Rattle.reads.proofs.vertices_formed.Goals as goal

pub returns : goal.returns
returns c = search vertices-listed
