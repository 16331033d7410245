-- `changes::withdraw_transfers` meets its contract. Assumes nothing.
use Rattle.changes.proofs.Told.{change-refused, change-done}
use Rattle.changes.proofs.withdraw_transfers.Goals as goal

pub returns-then-not-is_done : goal.returns-then-not-is_done
returns-then-not-is_done c = search change-refused

pub returns : goal.returns
returns c = search change-done
