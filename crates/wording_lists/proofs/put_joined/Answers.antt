-- `wording_lists::put_joined` meets its contract. Assumes nothing.
use Rattle.wording_lists.proofs.Listed.{joined-none, joined-some}
use Rattle.wording_lists.proofs.put_joined.Goals as goal

pub returns-then-ns-eq0 : goal.returns-then-ns-eq0
returns-then-ns-eq0 c = search joined-none

pub returns : goal.returns
returns c = search joined-some
