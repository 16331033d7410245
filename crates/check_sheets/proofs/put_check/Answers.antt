-- `check_sheets::put_check` meets its contract. Assumes nothing.
use Rattle.check_sheets.proofs.Checked.{check-plain, check-worded}
use Rattle.check_sheets.proofs.put_check.Goals as goal

pub returns-then-plain : goal.returns-then-plain
returns-then-plain c = search check-plain

pub returns : goal.returns
returns c = search check-worded
