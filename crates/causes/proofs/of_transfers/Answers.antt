-- `causes::of_transfers` meets its contract. Assumes nothing.
use Rattle.causes.proofs.Causes.{a-change, no_change}
use Rattle.causes.proofs.of_transfers.Goals as goal

pub returns-in-Make : goal.returns-in-Make
returns-in-Make c = search a-change

pub returns-in_default : goal.returns-in_default
returns-in_default c = no_change _ _ c.in_default.not-Make
