-- `desk_releasable::releasable_formed` meets its contract. Assumes nothing.
use Rattle.desk_looks.proofs.Shown.{releasable-listed}
use Rattle.desk_releasable.proofs.releasable_formed.Goals as goal

pub returns : goal.returns
returns c = search releasable-listed
