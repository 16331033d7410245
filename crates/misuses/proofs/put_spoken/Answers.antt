-- `misuses::put_spoken` meets its contract. Assumes nothing.
use Rattle.misuses.proofs.Misuses.{spoken-put}
use Rattle.misuses.proofs.put_spoken.Goals as goal

pub returns : goal.returns
returns c = search spoken-put
