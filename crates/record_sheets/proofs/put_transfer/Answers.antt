-- `record_sheets::put_transfer` meets its contract. Assumes nothing.
use Rattle.record_sheets.proofs.Records.{transfer-put}
use Rattle.record_sheets.proofs.put_transfer.Goals as goal

pub returns : goal.returns
returns c = search transfer-put
