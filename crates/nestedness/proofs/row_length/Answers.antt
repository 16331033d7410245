-- `nestedness::row_length` meets its contract. Assumes nothing.
use Rattle.properties.proofs.Rows.{row-none, row-three}
use Rattle.nestedness.proofs.row_length.Goals as goal

pub returns-then-count_of_size-eq0 : goal.returns-then-count_of_size-eq0
returns-then-count_of_size-eq0 c = search row-none

pub returns : goal.returns
returns c = search row-three
