-- `put_states::put_record` meets its contract. Assumes nothing.
use Rattle.put_states.proofs.Putting.{record-put}
use Rattle.put_states.proofs.put_record.Goals as goal

pub returns : goal.returns
returns c = search record-put
