-- `relaxed::label` meets its contract. Assumes nothing.
use mathlib.Core.Path.{refl}
use Rattle.distance.proofs.Keys.{blocks-label}
use Rattle.relaxed.proofs.label.Goals as goal

pub returns : goal.returns
returns c = (refl, refl, search blocks-label)
