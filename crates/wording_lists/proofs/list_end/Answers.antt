-- `wording_lists::list_end` meets its contract. Assumes nothing.
use Rattle.wording_lists.proofs.Listed.{end-cut, end_whole}
use Rattle.wording_lists.proofs.list_end.Goals as goal

pub returns-then-ws-i : goal.returns-then-ws-i
returns-then-ws-i c = search end-cut

pub returns : goal.returns
returns c = search end_whole
