-- `distance::blocks::first_of` meets its contract: what is left of the search is the whole. Assumes nothing.
use mathlib.Core.Path.{refl}
use Rattle.distance.proofs.Keys.{first-here, first_step, first-end}
use borrow.Author.Rules.{rules}
use Rattle.distance.proofs.blocks.first_of.Goals as goal

pub loop-v-init : goal.loop-v-init
loop-v-init c = (search rules, refl)

pub returns-then-has_key : goal.returns-then-has_key
returns-then-has_key c = search first-here

pub loop-v-preserved : goal.loop-v-preserved
loop-v-preserved c = (search rules, search first_step)

pub returns : goal.returns
returns c = search first-end
