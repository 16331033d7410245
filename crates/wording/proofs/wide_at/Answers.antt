-- `wording::wide_at` meets its contract. Assumes nothing.
use Rattle.wording.proofs.Filled.{wide_is}
use Rattle.wording.proofs.wide_at.Goals as goal

pub returns : goal.returns
returns c = search wide_is
