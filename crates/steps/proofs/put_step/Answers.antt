-- `steps::put_step` meets its contract. Assumes nothing.
use Rattle.steps.proofs.put_step.Goals as goal

pub returns : goal.returns
returns c = rw (c.put-2.ensures, c.put.ensures)
