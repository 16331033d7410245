-- `causes::cause_number` meets its contract. Assumes nothing.
use Rattle.causes.proofs.Causes.{tray-line, tube-line, short-line, order-line, own_line}
use Rattle.causes.proofs.cause_number.Goals as goal

pub returns-then-of_transfers : goal.returns-then-of_transfers
returns-then-of_transfers c = search tray-line

pub returns-then-number-eq15 : goal.returns-then-number-eq15
returns-then-number-eq15 c = search tube-line

pub returns-then-detail-count : goal.returns-then-detail-count
returns-then-detail-count c = search short-line

pub returns-then-number-eq19 : goal.returns-then-number-eq19
returns-then-number-eq19 c = search order-line

pub returns : goal.returns
returns c = search own_line
