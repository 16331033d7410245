-- `batches::refuse` meets its contract. Assumes nothing.
use Rattle.batches.proofs.Settling.{refused-said}
use Rattle.batches.proofs.refuse.Goals as goal

pub returns : goal.returns
returns c = search refused-said
