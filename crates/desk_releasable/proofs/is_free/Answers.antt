-- `desk_releasable::is_free` meets its contract. Assumes nothing.
use Rattle.desk_looks.proofs.Marking.{held-not-free, unheld-free}
use Rattle.desk_releasable.proofs.is_free.Goals as goal

pub returns-then-held : goal.returns-then-held
returns-then-held c = search held-not-free

pub returns : goal.returns
returns c = search unheld-free
