-- `check_sheets::put_yes_no` meets its contract. Assumes nothing.
use Rattle.check_sheets.proofs.Checked.{named-yes, named-no}
use Rattle.check_sheets.proofs.put_yes_no.Goals as goal

pub returns-then-yes : goal.returns-then-yes
returns-then-yes c = search named-yes

pub returns : goal.returns
returns c = search named-no
