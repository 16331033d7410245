-- `tray_marks::mark_vertex` meets its contract. Assumes nothing.
use Rattle.marks.proofs.Marked.{marked-in}
use Rattle.tray_marks.proofs.Judging.{vertex-missing, vertex-there}
use Rattle.tray_marks.proofs.mark_vertex.Goals as goal

pub bounds-marked-k : goal.bounds-marked-k
bounds-marked-k c = search marked-in

pub returns-in_default : goal.returns-in_default
returns-in_default c = search vertex-missing

pub returns : goal.returns
returns c = search vertex-there
