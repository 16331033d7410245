-- `desk_states::is_done` meets its contract. Assumes nothing.
use Rattle.desk_states.proofs.Turns.{done-by}
use Rattle.desk_states.proofs.is_done.Goals as goal

pub returns : goal.returns
returns c = search done-by
