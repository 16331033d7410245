-- `replay_reading::list` meets its contract. Assumes nothing.
use Rattle.replay.proofs.Bytes.{list-too-long, list-unread, list-extent, list-words, count_kept}
use borrow.Author.Rules.{rules}
use Rattle.replay_reading.proofs.list.Goals as goal

pub returns-then-count-list : goal.returns-then-count-list
returns-then-count-list c = (search list-too-long, (search list-unread, search rules))

pub returns : goal.returns
returns c = (search list-extent, (search list-words, (search rules, search count_kept)))
