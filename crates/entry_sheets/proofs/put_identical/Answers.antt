-- `entry_sheets::put_identical` meets its contract. Assumes nothing.
use Rattle.entry_sheets.proofs.Entries.{identical-put}
use Rattle.entry_sheets.proofs.put_identical.Goals as goal

pub returns : goal.returns
returns c = search identical-put
