-- `edits::shift::shift_down` meets its contract. Assumes nothing.
use Rattle.edits.proofs.Copied.{shift-done}
use Rattle.edits.proofs.shift.shift_down.Goals as goal

pub returns : goal.returns
returns c = search shift-done
