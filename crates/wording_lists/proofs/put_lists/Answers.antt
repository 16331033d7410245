-- `wording_lists::put_lists` meets its contract. Assumes nothing.
use Rattle.wording_lists.proofs.Listed.{listed-none, listed-some}
use Rattle.wording_lists.proofs.put_lists.Goals as goal

pub returns-then-ws-eq0 : goal.returns-then-ws-eq0
returns-then-ws-eq0 c = search listed-none

pub returns : goal.returns
returns c = search listed-some
