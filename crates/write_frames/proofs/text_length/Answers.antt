-- `write_frames::text_length` meets its contract. Assumes nothing.
use Rattle.frames.proofs.Text.{text-length-is}
use Rattle.write_frames.proofs.text_length.Goals as goal

pub returns : goal.returns
returns c = search text-length-is
