-- `batch_changes::is_changing` meets its contract. Assumes nothing.
use Rattle.batch_changes.proofs.Lines.{changing-read}
use Rattle.batch_changes.proofs.is_changing.Goals as goal

pub returns : goal.returns
returns c = search changing-read
