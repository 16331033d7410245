-- `frames::put_bytes` meets its contract. Assumes nothing.
use Rattle.frames.proofs.Bytes.{bytes-copied}
use Rattle.frames.proofs.put_bytes.Goals as goal

pub returns : goal.returns
returns c = bytes-copied _ _ _ _ c.copy_from_slice.ensures.after c.requires
