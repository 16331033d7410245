-- `batches::settle_done` meets its contract. Assumes nothing.
use Rattle.batches.proofs.Settling.{settled-done, settled-full}
use Rattle.batches.proofs.settle_done.Goals as goal

pub returns-then-next-out : goal.returns-then-next-out
returns-then-next-out c = search settled-done

pub returns : goal.returns
returns c = search settled-full
