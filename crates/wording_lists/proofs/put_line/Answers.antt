-- `wording_lists::put_line` meets its contract. Assumes nothing.
use Rattle.wording_lists.proofs.Listed.{line-put}
use Rattle.wording_lists.proofs.put_line.Goals as goal

pub returns : goal.returns
returns c = search line-put
