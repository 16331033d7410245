-- `causes::put_no_order` meets its contract. Assumes nothing.
use Rattle.causes.proofs.Causes.{order-put}
use Rattle.causes.proofs.put_no_order.Goals as goal

pub returns : goal.returns
returns c = search order-put
