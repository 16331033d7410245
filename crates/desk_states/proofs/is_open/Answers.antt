-- `desk_states::is_open` meets its contract. Assumes nothing.
use Rattle.desk_states.proofs.Open.{open-unsized, open-over, open-states}
use Rattle.desk_states.proofs.is_open.Goals as goal

pub returns-then-t-ne-SIZE : goal.returns-then-t-ne-SIZE
returns-then-t-ne-SIZE c = search open-unsized

pub returns-then-n-gt-VERTEX_LIMIT : goal.returns-then-n-gt-VERTEX_LIMIT
returns-then-n-gt-VERTEX_LIMIT c = search open-over

pub returns : goal.returns
returns c = search open-states
