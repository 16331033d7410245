-- `desk_edits::desk_remove_hyperedge` meets its contract. Assumes nothing.
use Rattle.desk_states.proofs.Removed.{edit-shut}
use Rattle.desk_edits.proofs.Kept.{hyperedge-removed}
use Rattle.desk_edits.proofs.desk_remove_hyperedge.Goals as goal

pub returns-then-not-is_open : goal.returns-then-not-is_open
returns-then-not-is_open c = search edit-shut

pub returns : goal.returns
returns c = search hyperedge-removed
