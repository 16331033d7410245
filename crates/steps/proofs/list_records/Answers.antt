-- `steps::list_records` meets its contract. Assumes nothing.
use Rattle.steps.proofs.Numbers.{records-over, records-fit}
use Rattle.steps.proofs.list_records.Goals as goal

pub returns-then-out-c : goal.returns-then-out-c
returns-then-out-c c = search records-over

pub returns : goal.returns
returns c = search records-fit
