-- `reader::byte_at` meets its contract. Assumes nothing.
use Rattle.reader.proofs.Digits.{byte-read}
use Rattle.reader.proofs.byte_at.Goals as goal

pub returns : goal.returns
returns c = byte-read _ _ _ _ c.value.ensures.0 c.value.ensures.1 c.value-2.ensures.0 c.value-2.ensures.1
