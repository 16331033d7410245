-- `check_sheets::is_acyclic` meets its contract. Assumes nothing.
use Rattle.check_sheets.proofs.Checked.{acyclic-told}
use Rattle.check_sheets.proofs.is_acyclic.Goals as goal

pub returns : goal.returns
returns c = search acyclic-told
