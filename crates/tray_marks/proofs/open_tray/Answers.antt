-- `tray_marks::open_tray` meets its contract. Assumes nothing.
use Rattle.tray_marks.specs.Marking.{opened, no_marks}
use Rattle.tray_marks.proofs.open_tray.Goals as goal

pub returns : goal.returns
unfolding opened no_marks
returns c = rw (← c.well_formed-formed.ensures)
