-- `desk_release::first_held` meets its contract. Assumes nothing.
use mathlib.Core.Path.{refl}
use Rattle.edits.specs.Results.{first_passing}
use Rattle.desk_release.proofs.Released.{held_on, held-here, held_none}
use borrow.Author.Rules.{rules}
use Rattle.desk_release.proofs.first_held.Goals as goal

pub loop-k-init : goal.loop-k-init
unfolding first_passing
loop-k-init c = (search rules, refl)

pub returns-then-is_held : goal.returns-then-is_held
returns-then-is_held c = search held-here

pub loop-k-preserved : goal.loop-k-preserved
loop-k-preserved c = (search rules, search held_on)

pub returns : goal.returns
returns c = search held_none
