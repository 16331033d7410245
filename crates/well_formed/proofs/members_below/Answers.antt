-- `well_formed::members_below` meets its contract. Assumes nothing.
use Rattle.formed.proofs.Judged.{members-below-are}
use Rattle.well_formed.proofs.members_below.Goals as goal

pub returns : goal.returns
returns c = search members-below-are
