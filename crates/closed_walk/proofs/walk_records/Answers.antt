-- `closed_walk::walk_records` meets its contract. Assumes nothing.
use Rattle.closed_walk.proofs.Naming.{walk-ordered}
use Rattle.closed_walk.proofs.walk_records.Goals as goal

pub returns : goal.returns
returns c = search walk-ordered
