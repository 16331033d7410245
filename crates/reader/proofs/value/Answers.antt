-- `reader::value` meets its contract. Assumes nothing.
use Rattle.reader.proofs.Digits.{value_read}
use native.Mathlib.Omega.{arith}
use Rattle.reader.proofs.value.Goals as goal

pub returns : goal.returns
returns c = value_read _ _ _ c.requires (omega arith) c.wide_value.ensures
