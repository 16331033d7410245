-- `record_sheets::put_transfers` meets its contract. Assumes nothing.
use mathlib.Core.Path.{refl}
use Rattle.record_sheets.specs.Records.{transfer_lines}
use Rattle.wording.proofs.Writing.{left-length}
use Rattle.record_sheets.proofs.Lines.{left-record, left-no-record}
use borrow.Author.Rules.{rules}
use Rattle.record_sheets.proofs.put_transfers.Goals as goal

pub loop-j-init : goal.loop-j-init
loop-j-init c = (search rules, refl)

pub loop-j-preserved : goal.loop-j-preserved
loop-j-preserved c = (search rules, search left-record)

pub shape_of-out : goal.shape_of-out
shape_of-out c = search left-length

pub returns : goal.returns
unfolding transfer_lines
returns c = search left-no-record
