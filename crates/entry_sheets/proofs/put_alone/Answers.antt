-- `entry_sheets::put_alone` meets its contract. Assumes nothing.
use Rattle.entry_sheets.proofs.Entries.{alone-put}
use Rattle.entry_sheets.proofs.put_alone.Goals as goal

pub returns : goal.returns
returns c = search alone-put
