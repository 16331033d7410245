-- `reader::number_at` meets its contract. Assumes nothing.
use Rattle.reader.proofs.Digits.{number_read}
use Rattle.reader.proofs.number_at.Goals as goal

pub returns : goal.returns
returns c = number_read _ _ _ _ _ _ c.byte_at-a.ensures.0 c.byte_at-a.ensures.1 c.byte_at-b.ensures.0 c.byte_at-b.ensures.1
    c.byte_at-c.ensures.0 c.byte_at-c.ensures.1 c.byte_at-d.ensures.0 c.byte_at-d.ensures.1
