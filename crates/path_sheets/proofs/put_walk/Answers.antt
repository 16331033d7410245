-- `path_sheets::put_walk` meets its contract. Assumes nothing.
use Rattle.path_sheets.proofs.Entries.{walk_none, walk-some}
use Rattle.path_sheets.proofs.put_walk.Goals as goal

pub returns-then-words-lt5 : goal.returns-then-words-lt5
returns-then-words-lt5 c = search walk_none

pub returns : goal.returns
returns c = search walk-some
