-- `walk::greater` meets its contract. Assumes nothing.
use Rattle.walk.proofs.greater.Goals as goal

pub returns : goal.returns
returns c = rw c.exact.ensures
