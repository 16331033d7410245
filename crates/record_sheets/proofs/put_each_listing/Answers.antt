-- `record_sheets::put_each_listing` meets its contract. Assumes nothing.
use Rattle.wording.proofs.Writing.{left-length}
use Rattle.record_sheets.proofs.Lines.{left-record, left-no-record}
use Rattle.record_sheets.proofs.Records.{listing-first}
use borrow.Author.Rules.{rules}
use Rattle.record_sheets.proofs.put_each_listing.Goals as goal

pub loop-j-init : goal.loop-j-init
loop-j-init c = (search rules, search listing-first)

pub loop-j-preserved : goal.loop-j-preserved
loop-j-preserved c = (search rules, search left-record)

pub shape_of-out : goal.shape_of-out
shape_of-out c = search left-length

pub returns : goal.returns
returns c = search left-no-record
