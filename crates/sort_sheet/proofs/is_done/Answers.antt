-- `sort_sheet::is_done` meets its contract. Assumes nothing.
use Rattle.sort_sheet.proofs.Sheet.{number-told}
use Rattle.sort_sheet.proofs.is_done.Goals as goal

pub returns : goal.returns
returns c = search number-told
