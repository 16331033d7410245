-- `causes::named` meets its contract. Assumes nothing.
use Rattle.causes.proofs.Causes.{named-are}
use Rattle.causes.proofs.named.Goals as goal

pub returns : goal.returns
returns c = search named-are
