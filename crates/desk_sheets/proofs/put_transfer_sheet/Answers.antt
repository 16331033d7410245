-- `desk_sheets::put_transfer_sheet` meets its contract. Assumes nothing.
use Rattle.desk_sheets.proofs.Shown.{transfer-plain, transfer-worded}
use Rattle.desk_sheets.proofs.put_transfer_sheet.Goals as goal

pub returns-then-plain : goal.returns-then-plain
returns-then-plain c = search transfer-plain

pub returns : goal.returns
returns c = search transfer-worded
