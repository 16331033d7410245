-- `desk_sheets::put_show` meets its contract. Assumes nothing.
use Rattle.desk_sheets.proofs.Shown.{show-plain, show-worded}
use Rattle.desk_sheets.proofs.put_show.Goals as goal

pub returns-then-plain : goal.returns-then-plain
returns-then-plain c = search show-plain

pub returns : goal.returns
returns c = search show-worded
