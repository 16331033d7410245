-- `check_sheets::check_numbers` meets its contract. Assumes nothing.
use Rattle.check_sheets.proofs.Checked.{numbers-checked}
use Rattle.check_sheets.proofs.check_numbers.Goals as goal

pub returns : goal.returns
returns c = search numbers-checked
