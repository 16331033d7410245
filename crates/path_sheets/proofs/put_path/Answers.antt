-- `path_sheets::put_path` meets its contract. Assumes nothing.
use Rattle.path_sheets.proofs.Told.{path_room, path-refused, path-within, path-words, path-done}
use borrow.Author.Rules.{rules}
use Rattle.path_sheets.proofs.put_path.Goals as goal

pub returns-in_err-k : goal.returns-in_err-k
unfolding path_room
returns-in_err-k c = search (path-refused, c.in_err-k.was)

pub slice_bounds-put_worded-end : goal.slice_bounds-put_worded-end
unfolding path_room
slice_bounds-put_worded-end c = search (path-within, c.in_ok-k.was)

pub put_worded-requires : goal.put_worded-requires
unfolding path_room
put_worded-requires c = record { formed = search rules; words_value = search (path-words, c.in_ok-k.was) }

pub returns : goal.returns
unfolding path_room
returns c = search (path-done, c.in_ok-k.was)
