-- `side_by_side::beside_in` meets its contract. Assumes nothing.
use Rattle.side_by_side.proofs.Places.{beside_none, beside-counted}
use Rattle.side_by_side.proofs.beside_in.Goals as goal

pub returns-then-not-holds : goal.returns-then-not-holds
returns-then-not-holds c = search beside_none

pub returns : goal.returns
returns c = search beside-counted
