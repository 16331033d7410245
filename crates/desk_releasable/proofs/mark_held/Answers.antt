-- `desk_releasable::mark_held` meets its contract. Assumes nothing.
use Rattle.lookups.specs.State.{no_marks}
use Rattle.desk_looks.proofs.Marking.{held_none, held-end}
use borrow.Author.Rules.{rules}
use Rattle.desk_releasable.proofs.mark_held.Goals as goal

pub loop-u-init : goal.loop-u-init
unfolding no_marks
loop-u-init c = (search rules, search held_none)

pub returns : goal.returns
returns c = search held-end
