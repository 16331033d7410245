-- `reader::short_at` meets its contract. Assumes nothing.
use Rattle.reader.proofs.Digits.{short-read}
use Rattle.reader.proofs.short_at.Goals as goal

pub returns : goal.returns
returns c = short-read _ _ _ _ c.byte_at.ensures.0 c.byte_at.ensures.1 c.byte_at-2.ensures.0 c.byte_at-2.ensures.1
