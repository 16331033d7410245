-- `batches::keep` meets its contract. Assumes nothing.
use Rattle.batches.proofs.Carrying.{not-kept, new-kept, done-not, done-is}
use Rattle.batches.proofs.keep.Goals as goal

pub returns-then-ne : goal.returns-then-ne
returns-then-ne c = search (not-kept, done-not)

pub returns : goal.returns
returns c = search (new-kept, done-is)
