-- `read_frames::answer_of` meets its contract. Assumes nothing.
use Rattle.reader.proofs.Texts.{answer-none, answer-line}
use Rattle.read_frames.proofs.answer_of.Goals as goal

pub returns-then-line-eq0 : goal.returns-then-line-eq0
returns-then-line-eq0 c = search answer-none

pub returns : goal.returns
returns c = search answer-line
