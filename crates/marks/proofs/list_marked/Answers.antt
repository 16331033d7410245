-- `marks::list_marked` meets its contract. Assumes nothing.
use Rattle.marks.proofs.Marked.{marked-over, marked-fits}
use Rattle.marks.proofs.list_marked.Goals as goal

pub returns-then-out-c : goal.returns-then-out-c
returns-then-out-c c = search marked-over

pub returns : goal.returns
returns c = search marked-fits
