-- `batches::refuse_through` meets its contract. Assumes nothing.
use Rattle.batches.proofs.Settling.{refused-with}
use Rattle.batches.proofs.refuse_through.Goals as goal

pub returns : goal.returns
returns c = search refused-with
