-- `tray_marks::mark_hyperedge` meets its contract. Assumes nothing.
use Rattle.tray_marks.proofs.Judging.{hyperedge-in, hyperedge-missing, hyperedge-there}
use Rattle.tray_marks.proofs.mark_hyperedge.Goals as goal

pub bounds-marked-k : goal.bounds-marked-k
bounds-marked-k c = search hyperedge-in

pub returns-in_default : goal.returns-in_default
returns-in_default c = search hyperedge-missing

pub returns : goal.returns
returns c = search hyperedge-there
