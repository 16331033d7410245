-- `read_frames::read_frames` meets its contract. Assumes nothing.
use Rattle.layout.specs.Layout.{limit, size}
use Rattle.reader.proofs.Made.{blank-is}
use Rattle.reader.proofs.Texts.{answer-unsized, answer-read}
use Rattle.read_frames.proofs.read_frames.Goals as goal

pub returns-then-t-ne-SIZE : goal.returns-then-t-ne-SIZE
returns-then-t-ne-SIZE c = search answer-unsized

pub read_text-line-requires : goal.read_text-line-requires
read_text-line-requires c = blank-is (size limit)

pub returns : goal.returns
returns c = search answer-read
