-- `record_sheets::put_transfers_of` meets its contract. Assumes nothing.
use Rattle.record_sheets.proofs.Records.{listings-none, listings-some}
use Rattle.record_sheets.proofs.put_transfers_of.Goals as goal

pub returns-then-not-is_listed : goal.returns-then-not-is_listed
returns-then-not-is_listed c = search listings-none

pub returns : goal.returns
returns c = search listings-some
