-- `frames::put_byte_of` meets its contract. Assumes nothing.
use Rattle.frames.proofs.Bytes.{byte-is}
use Rattle.frames.proofs.put_byte_of.Goals as goal

pub returns : goal.returns
returns c = search byte-is
