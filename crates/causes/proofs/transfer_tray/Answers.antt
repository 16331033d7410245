-- `causes::transfer_tray` meets its contract. Assumes nothing.
use Rattle.causes.proofs.Causes.{is-tray, is-no-tray}
use Rattle.causes.proofs.transfer_tray.Goals as goal

pub returns-in-WithdrawTransfers : goal.returns-in-WithdrawTransfers
returns-in-WithdrawTransfers c = search is-tray

pub returns-in_default : goal.returns-in_default
returns-in_default c = is-no-tray _ c.in_default.not-WithdrawTransfers
