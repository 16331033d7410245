-- `put_states::put_for` meets its contract. Assumes nothing.
use Rattle.put_states.proofs.Putting.{put-none, put-line}
use Rattle.put_states.proofs.put_for.Goals as goal

pub returns-then-x-eq-WAITING : goal.returns-then-x-eq-WAITING
returns-then-x-eq-WAITING c = search put-none

pub returns : goal.returns
returns c = search put-line
