-- `record_sheets::put_tubes` meets its contract. Assumes nothing.
use Rattle.record_sheets.proofs.Records.{tubes-none, tubes-some}
use Rattle.record_sheets.proofs.put_tubes.Goals as goal

pub returns-then-vertex_count-eq0 : goal.returns-then-vertex_count-eq0
returns-then-vertex_count-eq0 c = search tubes-none

pub returns : goal.returns
returns c = search tubes-some
