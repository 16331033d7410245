-- `desk_order::place` meets its contract. Assumes nothing.
use Rattle.desk_order.proofs.Placing.{placed-already, steps-to-itself, steps_back, placed-now}
use Rattle.desk_order.proofs.place.Goals as goal

pub returns-then-placed-k : goal.returns-then-placed-k
returns-then-placed-k c = search placed-already

pub returns-then-m-k-eq1 : goal.returns-then-m-k-eq1
returns-then-m-k-eq1 c = search steps-to-itself

pub returns-then-meets : goal.returns-then-meets
returns-then-meets c = search steps_back

pub returns : goal.returns
returns c = search placed-now
