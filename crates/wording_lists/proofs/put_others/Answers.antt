-- `wording_lists::put_others` meets its contract: what is left, written on the page as it is, gives the page with all of it. Assumes nothing.
use mathlib.Core.Path.{refl}
use Rattle.wording.proofs.Writing.{left-text, left-no-text, left-length}
use Rattle.wording_lists.proofs.put_others.Goals as goal

pub loop-i-init : goal.loop-i-init
loop-i-init c = refl

pub loop-i-preserved : goal.loop-i-preserved
loop-i-preserved c = search left-text

pub shape_of-out : goal.shape_of-out
shape_of-out c = search left-length

pub returns : goal.returns
returns c = search left-no-text
