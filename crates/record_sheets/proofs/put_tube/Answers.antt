-- `record_sheets::put_tube` meets its contract. Assumes nothing.
use Rattle.record_sheets.proofs.Records.{tube-put}
use Rattle.record_sheets.proofs.put_tube.Goals as goal

pub returns : goal.returns
returns c = search tube-put
