-- `desk_sheets::put_counts` meets its contract. Assumes nothing.
use Rattle.desk_sheets.proofs.Shown.{counts-put}
use Rattle.desk_sheets.proofs.put_counts.Goals as goal

pub returns : goal.returns
returns c = search counts-put
