-- `entry_sheets::put_tube` meets its contract. Assumes nothing.
use Rattle.entry_sheets.proofs.Entries.{tube-put}
use Rattle.entry_sheets.proofs.put_tube.Goals as goal

pub returns : goal.returns
returns c = search tube-put
