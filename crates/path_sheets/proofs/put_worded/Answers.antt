-- `path_sheets::put_worded` meets its contract. Assumes nothing.
use Rattle.path_sheets.proofs.Entries.{path-plain, path-worded}
use Rattle.path_sheets.proofs.put_worded.Goals as goal

pub returns-then-plain : goal.returns-then-plain
returns-then-plain c = search path-plain

pub returns : goal.returns
returns c = search path-worded
