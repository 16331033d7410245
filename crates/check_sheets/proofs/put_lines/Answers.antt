-- `check_sheets::put_lines` meets its contract. Assumes nothing.
use Rattle.check_sheets.proofs.Checked.{lines-put}
use Rattle.check_sheets.proofs.put_lines.Goals as goal

pub returns : goal.returns
returns c = search lines-put
