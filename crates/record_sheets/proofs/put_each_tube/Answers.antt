-- `record_sheets::put_each_tube` meets its contract. Assumes nothing.
use mathlib.Core.Path.{refl}
use Rattle.wording.proofs.Writing.{left-length}
use Rattle.record_sheets.proofs.Lines.{left-record, left-no-record}
use borrow.Author.Rules.{rules}
use Rattle.record_sheets.proofs.put_each_tube.Goals as goal

pub loop-i-init : goal.loop-i-init
loop-i-init c = (search rules, refl)

pub loop-i-preserved : goal.loop-i-preserved
loop-i-preserved c = (search rules, search left-record)

pub shape_of-out : goal.shape_of-out
shape_of-out c = search left-length

pub returns : goal.returns
returns c = search left-no-record
