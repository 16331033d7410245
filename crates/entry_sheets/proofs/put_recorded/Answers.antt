-- `entry_sheets::put_recorded` meets its contract. Assumes nothing.
use Rattle.entry_sheets.proofs.Entries.{recorded-put}
use Rattle.entry_sheets.proofs.put_recorded.Goals as goal

pub returns : goal.returns
returns c = search recorded-put
