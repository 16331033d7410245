-- `desk_states::renew` meets its contract. Assumes nothing.
use Rattle.desk_states.proofs.Turns.{not-renewed, all-renewed}
use Rattle.desk_states.proofs.renew.Goals as goal

pub returns-then-not-is_done : goal.returns-then-not-is_done
returns-then-not-is_done c = search not-renewed

pub returns : goal.returns
returns c = search all-renewed
