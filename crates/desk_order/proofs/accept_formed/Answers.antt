-- `desk_order::accept_formed` meets its contract. Assumes nothing.
use Rattle.desk_order.proofs.Faults.{bad-place, no-bad-place}
use Rattle.desk_order.proofs.accept_formed.Goals as goal

pub returns-in-Some : goal.returns-in-Some
returns-in-Some c = search bad-place

pub returns : goal.returns
returns c = search no-bad-place
