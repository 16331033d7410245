-- `well_formed::well_formed` meets its contract. Assumes nothing.
use Rattle.formed.proofs.Judged.{unformed-by, shaped-when, formed-when}
use Rattle.well_formed.proofs.well_formed.Goals as goal

pub returns-then-not-is_shaped : goal.returns-then-not-is_shaped
returns-then-not-is_shaped c = search unformed-by

pub is_valid-requires : goal.is_valid-requires
is_valid-requires c = search shaped-when

pub returns : goal.returns
returns c = search formed-when
