-- `adjacent::mark_record` meets its contract: each relation. Assumes nothing.
use Rattle.lookups.proofs.Marking.{marked-along, marked-around, marked-alone}
use Rattle.adjacent.proofs.mark_record.Goals as goal

pub returns-in-Along : goal.returns-in-Along
returns-in-Along c = search marked-along

pub returns-then-holds : goal.returns-then-holds
returns-then-holds c = search marked-around

pub returns-else-holds : goal.returns-else-holds
returns-else-holds c = search marked-alone
