-- `formed::all_zero` meets its contract: a word below 1 is 0. Assumes nothing.
use mathlib.Core.Path.{◌∙◌}
use Rattle.lists.proofs.All.{below_one}
use Rattle.formed.proofs.all_zero.Goals as goal

pub returns : goal.returns
returns c = c.all_below.ensures ∙ below_one _
