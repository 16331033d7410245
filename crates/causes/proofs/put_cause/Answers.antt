-- `causes::put_cause` meets its contract. Assumes nothing.
use Rattle.causes.specs.Causes.{causes}
use Rattle.causes.proofs.Causes.{cause-put}
use Rattle.causes.proofs.put_cause.Goals as goal

pub returns : goal.returns
unfolding causes
returns c = search cause-put
