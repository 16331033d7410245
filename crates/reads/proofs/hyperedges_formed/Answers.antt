-- `reads::hyperedges_formed` meets its contract. Assumes nothing.
use Rattle.reads.proofs.Columns.{hyperedges-listed}
use Rattle.reads.proofs.hyperedges_formed.Goals as goal

pub returns : goal.returns
returns c = search hyperedges-listed
