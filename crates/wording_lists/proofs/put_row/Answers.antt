-- `wording_lists::put_row` meets its contract. Assumes nothing.
use Rattle.wording_lists.proofs.Listed.{row_put}
use Rattle.wording_lists.proofs.put_row.Goals as goal

pub returns : goal.returns
returns c = search row_put
