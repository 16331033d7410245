-- `entry_sheets::put_transfer` meets its contract. Assumes nothing.
use Rattle.entry_sheets.proofs.Entries.{found-put, new-put}
use Rattle.entry_sheets.proofs.put_transfer.Goals as goal

pub returns-then-n-next : goal.returns-then-n-next
returns-then-n-next c = search found-put

pub returns : goal.returns
returns c = search new-put
