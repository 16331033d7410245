-- `check_sheets::is_yes` meets its contract. Assumes nothing.
use Rattle.check_sheets.proofs.Checked.{yes-by}
use Rattle.check_sheets.proofs.is_yes.Goals as goal

pub returns : goal.returns
returns c = search yes-by
