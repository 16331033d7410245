-- `hyperedge_frames::put_hyperedge_at` meets its contract. Assumes nothing.
use Rattle.frames.proofs.Text.{members-limit, members-room, hyperedge-at-put}
use borrow.Author.Rules.{rules}
use Rattle.hyperedge_frames.proofs.put_hyperedge_at.Goals as goal

pub put_hyperedge-requires : goal.put_hyperedge-requires
put_hyperedge-requires c = record { pairs = search rules; members_len_bound = search members-limit; members_in_bounds = search members-room }

pub returns : goal.returns
returns c = search hyperedge-at-put
