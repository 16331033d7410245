-- `desk_states::move_state` meets its contract. Assumes nothing.
use Rattle.desk_states.proofs.Turns.{no-record-left, another-number, its-number}
use Rattle.desk_states.proofs.move_state.Goals as goal

pub returns-then-vertex_count-k : goal.returns-then-vertex_count-k
returns-then-vertex_count-k c = search no-record-left

pub returns-then-vertex_number-numbers : goal.returns-then-vertex_number-numbers
returns-then-vertex_number-numbers c = search another-number

pub returns : goal.returns
returns c = search its-number
