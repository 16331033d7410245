-- `wording::put_form` meets its contract: what is left of the form, filled in and written on the page as it is, gives the page with all of it. Assumes nothing.
use mathlib.Core.Path.{refl}
use Rattle.wording.specs.Forms.{filled}
use Rattle.wording.proofs.Writing.{left-text, left-no-text, left-length}
use Rattle.wording.proofs.put_form.Goals as goal

pub loop-i-init : goal.loop-i-init
unfolding filled
loop-i-init c = refl

pub loop-i-preserved : goal.loop-i-preserved
loop-i-preserved c = search left-text

pub shape_of-out : goal.shape_of-out
shape_of-out c = search left-length

pub returns : goal.returns
returns c = search left-no-text
