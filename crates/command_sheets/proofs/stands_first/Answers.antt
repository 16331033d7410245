-- `command_sheets::stands_first` meets its contract. Assumes nothing.
use Rattle.command_sheets.proofs.Told.{not_made, made}
use Rattle.command_sheets.proofs.stands_first.Goals as goal

pub returns-then-not-how : goal.returns-then-not-how
returns-then-not-how c = search not_made

pub returns : goal.returns
returns c = search made
