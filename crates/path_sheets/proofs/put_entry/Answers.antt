-- `path_sheets::put_entry` meets its contract. Assumes nothing.
use Rattle.path_sheets.proofs.Entries.{entry-put}
use Rattle.path_sheets.proofs.put_entry.Goals as goal

pub returns : goal.returns
returns c = search entry-put
