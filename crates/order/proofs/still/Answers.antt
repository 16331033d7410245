-- `order::still` meets its contract. Assumes nothing.
use Rattle.order.proofs.Blocks.{still-free, still-busy}
use Rattle.order.proofs.still.Goals as goal

pub returns-then-d-eq0 : goal.returns-then-d-eq0
returns-then-d-eq0 c = search still-free

pub returns : goal.returns
returns c = search still-busy
