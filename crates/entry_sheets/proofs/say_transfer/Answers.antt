-- `entry_sheets::say_transfer` meets its contract. Assumes nothing.
use Rattle.entry_sheets.proofs.Entries.{number_put, transfer-words}
use Rattle.entry_sheets.proofs.say_transfer.Goals as goal

pub returns-then-plain : goal.returns-then-plain
returns-then-plain c = search number_put

pub returns : goal.returns
returns c = search transfer-words
