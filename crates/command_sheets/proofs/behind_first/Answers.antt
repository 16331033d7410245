-- `command_sheets::behind_first` meets its contract. Assumes nothing.
use Rattle.lists.proofs.Parts.{part-tail}
use Rattle.command_sheets.proofs.Told.{none-behind}
use Rattle.command_sheets.proofs.behind_first.Goals as goal

pub returns-then-ns-ge1 : goal.returns-then-ns-ge1
returns-then-ns-ge1 c = search part-tail

pub returns : goal.returns
returns c = search none-behind
