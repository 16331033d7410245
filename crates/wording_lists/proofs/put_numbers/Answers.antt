-- `wording_lists::put_numbers` meets its contract. Assumes nothing.
use Rattle.wording_lists.proofs.Listed.{or-none, or_some}
use Rattle.wording_lists.proofs.put_numbers.Goals as goal

pub returns-then-ns-eq0 : goal.returns-then-ns-eq0
returns-then-ns-eq0 c = search or-none

pub returns : goal.returns
returns c = search or_some
