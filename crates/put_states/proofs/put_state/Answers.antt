-- `put_states::put_state` meets its contract. Assumes nothing.
use Rattle.put_states.proofs.Putting.{line-put}
use Rattle.put_states.proofs.put_state.Goals as goal

pub returns : goal.returns
returns c = search line-put
