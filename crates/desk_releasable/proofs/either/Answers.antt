-- `desk_releasable::either` meets its contract. Assumes nothing.
use Rattle.desk_looks.proofs.Marking.{either-marked, either_same}
use Rattle.desk_releasable.proofs.either.Goals as goal

pub returns-then-mark-eq1 : goal.returns-then-mark-eq1
returns-then-mark-eq1 c = search either-marked

pub returns : goal.returns
returns c = search either_same
