-- `marks::mark` meets its contract. Assumes nothing.
use Rattle.marks.proofs.Marked.{marked-none, marked-one, marked-in}
use Rattle.marks.proofs.mark.Goals as goal

pub bounds-marks-i : goal.bounds-marks-i
bounds-marks-i c = search marked-in

pub returns-in-None : goal.returns-in-None
returns-in-None c = search marked-none

pub returns-in-Some : goal.returns-in-Some
returns-in-Some c = search marked-one
