-- `wording_lists::put_after` meets its contract. Assumes nothing.
use Rattle.wording_lists.proofs.Listed.{blank-first}
use Rattle.wording_lists.proofs.put_after.Goals as goal

pub returns : goal.returns
returns c = search blank-first
