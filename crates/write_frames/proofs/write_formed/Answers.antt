-- `write_frames::write_formed` meets its contract. Assumes nothing.
use Rattle.frames.proofs.Text.{write-over, write-fits}
use Rattle.write_frames.proofs.write_formed.Goals as goal

pub returns-then-text-k : goal.returns-then-text-k
returns-then-text-k c = search write-over

pub returns : goal.returns
returns c = search write-fits
