-- `relaxed::settle` meets its contract. Assumes nothing.
use mathlib.Core.Path.{refl}
use Rattle.distance.proofs.Keys.{blocks-settle}
use Rattle.relaxed.proofs.settle.Goals as goal

pub returns : goal.returns
returns c = (refl, search blocks-settle)
