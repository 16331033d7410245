-- `desk_sheets::show_transfer` meets its contract. Assumes nothing.
use Rattle.layout.proofs.Answers.{asked-missing}
use Rattle.desk_sheets.specs.Sheets.{transfer_result}
use Rattle.desk_sheets.proofs.Shown.{transfer-within, transfer-shown}
use borrow.Author.Rules.{rules}
use Rattle.desk_sheets.proofs.show_transfer.Goals as goal

pub returns-in_err-j : goal.returns-in_err-j
unfolding transfer_result
returns-in_err-j c = search (asked-missing, c.in_err-j.was)

pub put_transfer_sheet-requires : goal.put_transfer_sheet-requires
put_transfer_sheet-requires c = record { formed = search rules; j_bound = search (transfer-within, c.in_ok-j.was) }

pub returns : goal.returns
returns c = search (transfer-shown, c.in_ok-j.was)
