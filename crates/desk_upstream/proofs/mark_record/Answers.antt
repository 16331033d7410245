-- `desk_upstream::mark_record` meets its contract. Assumes nothing.
use Rattle.lookups.proofs.Marking.{marked-along}
use Rattle.desk_upstream.proofs.mark_record.Goals as goal

pub returns : goal.returns
returns c = search marked-along
