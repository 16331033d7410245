-- `frames::digit` meets its contract. Assumes nothing.
use Rattle.frames.proofs.Bytes.{table-digit}
use Rattle.frames.proofs.digit.Goals as goal

pub returns : goal.returns
returns c = search table-digit
