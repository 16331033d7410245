-- `cut::record_of` meets its contract. Assumes nothing.
use Rattle.cut.proofs.Gathering.{record-is}
use Rattle.cut.proofs.record_of.Goals as goal

pub returns : goal.returns
returns c = search record-is
