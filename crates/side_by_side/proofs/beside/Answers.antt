-- `side_by_side::beside` meets its contract. Assumes nothing.
use Rattle.side_by_side.proofs.Places.{joins-by}
use Rattle.side_by_side.proofs.beside.Goals as goal

pub returns : goal.returns
returns c = search joins-by
