-- `desk_sheets::put_states` meets its contract. Assumes nothing.
use Rattle.desk_sheets.proofs.Shown.{states-plain, states-worded}
use Rattle.desk_sheets.proofs.put_states.Goals as goal

pub returns-then-plain : goal.returns-then-plain
returns-then-plain c = search states-plain

pub returns : goal.returns
returns c = search states-worded
