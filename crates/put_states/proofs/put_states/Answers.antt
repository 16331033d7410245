-- `put_states::put_states` meets its contract. Assumes nothing.
use mathlib.Core.Path.{refl}
use Rattle.wording.proofs.Writing.{left-length}
use Rattle.put_states.proofs.Putting.{states-more, states-end}
use Rattle.put_states.proofs.put_states.Goals as goal

pub loop-i-init : goal.loop-i-init
loop-i-init c = refl

pub loop-i-preserved : goal.loop-i-preserved
loop-i-preserved c = search states-more

pub shape_of-out : goal.shape_of-out
shape_of-out c = search left-length

pub returns : goal.returns
returns c = search states-end
