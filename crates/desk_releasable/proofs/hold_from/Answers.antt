-- `desk_releasable::hold_from` meets its contract. Assumes nothing.
use Rattle.desk_looks.proofs.Marking.{held_on, held_more}
use Rattle.desk_releasable.proofs.hold_from.Goals as goal

pub returns-then-s-u-eq-RELEASED : goal.returns-then-s-u-eq-RELEASED
returns-then-s-u-eq-RELEASED c = search held_on

pub returns : goal.returns
returns c = search held_more
