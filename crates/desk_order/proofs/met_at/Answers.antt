-- `desk_order::met_at` meets its contract. Assumes nothing.
use Rattle.desk_order.proofs.Placing.{no_step_lem, step-placed, step-unplaced}
use Rattle.desk_order.proofs.met_at.Goals as goal

pub returns-then-mark-ne1 : goal.returns-then-mark-ne1
returns-then-mark-ne1 c = search no_step_lem

pub returns-then-placed : goal.returns-then-placed
returns-then-placed c = search step-placed

pub returns : goal.returns
returns c = search step-unplaced
