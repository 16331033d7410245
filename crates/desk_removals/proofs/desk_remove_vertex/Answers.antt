-- `desk_removals::desk_remove_vertex` meets its contract. Assumes nothing.
use Rattle.desk_states.proofs.Open.{sized-when-open, few-when-open}
use Rattle.desk_states.proofs.Removed.{edit-shut, opened-by}
use Rattle.desk_removals.proofs.desk_remove_vertex.Goals as goal

pub returns-then-not-is_open : goal.returns-then-not-is_open
returns-then-not-is_open c = search edit-shut

pub vertex_count-n-requires : goal.vertex_count-n-requires
vertex_count-n-requires c = search sized-when-open

pub note_numbers-numbers-requires : goal.note_numbers-numbers-requires
note_numbers-numbers-requires c = (search sized-when-open, search few-when-open)

pub remove_noted-requires : goal.remove_noted-requires
remove_noted-requires c = search opened-by
