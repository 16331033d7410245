-- `causes::put_why` meets its contract. Assumes nothing.
use Rattle.causes.proofs.Causes.{why-walk, why-cause}
use Rattle.causes.proofs.put_why.Goals as goal

pub returns-then-number-eq9 : goal.returns-then-number-eq9
returns-then-number-eq9 c = search why-walk

pub returns : goal.returns
returns c = search why-cause
