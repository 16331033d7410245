-- `desk_sheets::show_tube` meets its contract. Assumes nothing.
use Rattle.layout.proofs.Answers.{asked-missing}
use Rattle.desk_sheets.specs.Sheets.{tube_result}
use Rattle.desk_sheets.proofs.Shown.{tube-within, tube-shown}
use borrow.Author.Rules.{rules}
use Rattle.desk_sheets.proofs.show_tube.Goals as goal

pub returns-in_err-i : goal.returns-in_err-i
unfolding tube_result
returns-in_err-i c = search (asked-missing, c.in_err-i.was)

pub put_tube_sheet-requires : goal.put_tube_sheet-requires
put_tube_sheet-requires c = record { formed = search rules; s_len = (search rules, search (tube-within, c.in_ok-i.was)) }

pub returns : goal.returns
returns c = search (tube-shown, c.in_ok-i.was)
