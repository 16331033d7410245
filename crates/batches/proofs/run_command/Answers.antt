-- `batches::run_command` meets its contract. Assumes nothing.
use Rattle.batches.proofs.Settling.{line-misused, line-settled}
use Rattle.batches.proofs.run_command.Goals as goal

pub returns-then-is_misused : goal.returns-then-is_misused
returns-then-is_misused c = search line-misused

pub returns : goal.returns
returns c = search line-settled
