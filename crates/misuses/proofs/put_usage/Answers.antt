-- `misuses::put_usage` meets its contract. Assumes nothing.
use Rattle.misuses.proofs.Misuses.{usage-put}
use Rattle.misuses.proofs.put_usage.Goals as goal

pub returns : goal.returns
returns c = search usage-put
