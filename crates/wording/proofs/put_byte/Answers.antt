-- `wording::put_byte` meets its contract. Assumes nothing.
use Rattle.wording.proofs.Writing.{byte_fits, byte_full}
use Rattle.wording.proofs.put_byte.Goals as goal

pub returns-then-at-out : goal.returns-then-at-out
returns-then-at-out c = search byte_fits

pub returns : goal.returns
returns c = search byte_full
