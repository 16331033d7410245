-- `desk_sheets::put_tube_sheet` meets its contract. Assumes nothing.
use Rattle.desk_sheets.proofs.Shown.{tube-plain, tube-worded}
use Rattle.desk_sheets.proofs.put_tube_sheet.Goals as goal

pub returns-then-plain : goal.returns-then-plain
returns-then-plain c = search tube-plain

pub returns : goal.returns
returns c = search tube-worded
