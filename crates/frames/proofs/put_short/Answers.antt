-- `frames::put_short` meets its contract. Assumes nothing.
use Rattle.frames.proofs.Bytes.{short-put}
use Rattle.frames.proofs.put_short.Goals as goal

pub returns : goal.returns
returns c = search short-put
