-- `reads::list_column` meets its contract. Assumes nothing.
use Rattle.reads.proofs.Columns.{column-over, column_fits}
use Rattle.reads.proofs.list_column.Goals as goal

pub returns-then-out-n : goal.returns-then-out-n
returns-then-out-n c = search column-over

pub returns : goal.returns
returns c = search column_fits
