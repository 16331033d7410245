-- `choices::choose_step` meets its contract. Assumes nothing.
use Rattle.paths.proofs.Choosing.{step_back_lem, step-forth}
use borrow.Author.Rules.{rules}
use Rattle.choices.proofs.choose_step.Goals as goal

pub returns-then-back : goal.returns-then-back
returns-then-back c = (search step_back_lem, search rules)

pub returns-else-back : goal.returns-else-back
returns-else-back c = (search step-forth, search rules)
