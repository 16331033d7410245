-- `commands::same_bytes` meets its contract. Assumes nothing.
use Rattle.commands.proofs.Names.{pointwise-same}
use Rattle.commands.proofs.same_bytes.Goals as goal

pub returns : goal.returns
returns c = search pointwise-same
