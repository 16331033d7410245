-- `check_sheets::is_connected` meets its contract. Assumes nothing.
use Rattle.check_sheets.proofs.Checked.{connected-told}
use Rattle.check_sheets.proofs.is_connected.Goals as goal

pub returns : goal.returns
returns c = search connected-told
