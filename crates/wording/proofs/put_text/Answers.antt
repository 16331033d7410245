-- `wording::put_text` meets its contract: what is left of the text, written on the page as it is, gives the page with all of it. Assumes nothing.
use mathlib.Core.Path.{refl}
use borrow.Author.Rules.{rules}
use Rattle.wording.proofs.Writing.{left-byte, left-none, left-length}
use Rattle.wording.proofs.put_text.Goals as goal

pub loop-i-init : goal.loop-i-init
loop-i-init c = (search rules, refl)

pub loop-i-preserved : goal.loop-i-preserved
loop-i-preserved c = (search rules, search left-byte)

pub shape_of-out : goal.shape_of-out
shape_of-out c = search left-length

pub returns : goal.returns
returns c = search left-none
