-- `mark_rows::has_mark` meets its contract. Assumes nothing.
use Rattle.mark_rows.proofs.Rows.{mark-read}
use Rattle.mark_rows.proofs.has_mark.Goals as goal

pub returns : goal.returns
returns c = mark-read _ _ _
