-- `read_frames::store_read` meets its contract. Assumes nothing.
use Rattle.reader.proofs.Texts.{stored-none, stored-words}
use Rattle.read_frames.proofs.store_read.Goals as goal

pub returns-then-line-gt0 : goal.returns-then-line-gt0
returns-then-line-gt0 c = search stored-none

pub returns : goal.returns
returns c = search stored-words
