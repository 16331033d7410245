-- `desk_states::states_fit` meets its contract. Assumes nothing.
use Rattle.desk_states.proofs.Open.{states-unsized, states-over, states-rest}
use Rattle.desk_states.proofs.states_fit.Goals as goal

pub returns-then-s-ne-VERTEX_LIMIT : goal.returns-then-s-ne-VERTEX_LIMIT
returns-then-s-ne-VERTEX_LIMIT c = search states-unsized

pub returns-then-not-all_below : goal.returns-then-not-all_below
returns-then-not-all_below c = search states-over

pub returns : goal.returns
returns c = search states-rest
