-- `batches::walk_named` meets its contract. Assumes nothing.
use Rattle.batches.proofs.Settling.{no_walk, a-walk}
use Rattle.batches.proofs.walk_named.Goals as goal

pub returns-then-number-ne9 : goal.returns-then-number-ne9
returns-then-number-ne9 c = search no_walk

pub returns : goal.returns
returns c = search a-walk
