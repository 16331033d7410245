-- `wording_lists::put_rows` meets its contract: what is left, written on the page as it is, gives the page with all of it. Assumes nothing.
use mathlib.Core.Path.{refl}
use native.Mathlib.Nat.{div-le_self}
use Rattle.wording.specs.Forms.{rows}
use Rattle.wording.proofs.Writing.{left-number, left-no-number, left-length}
use Rattle.wording_lists.proofs.Listed.{row_within}
use borrow.Author.Rules.{rules}
use Rattle.wording_lists.proofs.put_rows.Goals as goal

pub loop-i-init : goal.loop-i-init
unfolding rows
loop-i-init c = (search div-le_self, refl)

pub put_row-next-requires : goal.put_row-next-requires
put_row-next-requires c = search row_within

pub loop-i-preserved : goal.loop-i-preserved
loop-i-preserved c = (search rules, search left-number)

pub shape_of-out : goal.shape_of-out
shape_of-out c = search left-length

pub returns : goal.returns
returns c = search left-no-number
