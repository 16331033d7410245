-- `steps::put` meets its contract. Assumes nothing.
use Rattle.steps.proofs.Drawing.{put-none, put_one}
use Rattle.steps.proofs.put.Goals as goal

pub returns-then-not-due : goal.returns-then-not-due
returns-then-not-due c = search put-none

pub returns : goal.returns
returns c = search put_one
