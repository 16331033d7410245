-- `walking::step` meets its contract. Assumes nothing.
use Rattle.walk.proofs.Walked.{move-dead, found_here}
use borrow.Author.Rules.{rules}
use Rattle.walking.proofs.step.Goals as goal

pub step_from-requires : goal.step_from-requires
step_from-requires c = record { formed = search rules; t_value = (search found_here, search rules) }

pub returns-in_default : goal.returns-in_default
returns-in_default c = search move-dead
