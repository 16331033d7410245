-- `batches::run_on_copies` meets its contract. Assumes nothing.
use Rattle.batches.proofs.Carrying.{copy-length, copies_kept}
use Rattle.batches.proofs.run_on_copies.Goals as goal

pub keep-requires : goal.keep-requires
keep-requires c = (search copy-length, search copy-length)

pub returns : goal.returns
returns c = search copies_kept
