-- `desk_numbers::copy_of` meets its contract. Assumes nothing.
use Rattle.desk_numbers.proofs.Copies.{copied}
use Rattle.desk_numbers.proofs.copy_of.Goals as goal

pub returns : goal.returns
returns c = search copied
