-- `batches::settle` meets its contract. Assumes nothing.
use Rattle.batches.proofs.Settling.{settled-refused, settled-by}
use Rattle.batches.proofs.settle.Goals as goal

pub returns-then-reply-ne0 : goal.returns-then-reply-ne0
returns-then-reply-ne0 c = search settled-refused

pub returns : goal.returns
returns c = search settled-by
