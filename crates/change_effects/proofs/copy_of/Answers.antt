-- `change_effects::copy_of` meets its contract. Assumes nothing.
use Rattle.desk_numbers.proofs.Copies.{copied}
use Rattle.change_effects.proofs.copy_of.Goals as goal

pub returns : goal.returns
returns c = search copied
