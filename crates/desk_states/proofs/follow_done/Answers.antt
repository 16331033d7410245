-- `desk_states::follow_done` meets its contract. Assumes nothing.
use Rattle.desk_states.proofs.Turns.{not-followed, left-done, is-followed}
use borrow.Author.Rules.{rules}
use Rattle.desk_states.proofs.follow_done.Goals as goal

pub returns-then-not-is_done : goal.returns-then-not-is_done
returns-then-not-is_done c = search not-followed

pub follow-requires : goal.follow-requires
follow-requires c = record { survivors = search left-done; s_len = search rules }

pub returns : goal.returns
returns c = search is-followed
