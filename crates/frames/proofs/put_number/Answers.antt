-- `frames::put_number` meets its contract. Assumes nothing.
use Rattle.frames.proofs.Bytes.{number_put}
use Rattle.frames.proofs.put_number.Goals as goal

pub returns : goal.returns
returns c = search number_put
