-- `desk_looks::mark_state` meets its contract. Assumes nothing.
use Rattle.lookups.specs.State.{no_marks}
use Rattle.desk_looks.proofs.Marking.{where-none, state-more, where-end}
use borrow.Author.Rules.{rules}
use Rattle.desk_looks.proofs.mark_state.Goals as goal

pub loop-k-init : goal.loop-k-init
unfolding no_marks
loop-k-init c = (search rules, search where-none)

pub loop-k-preserved : goal.loop-k-preserved
loop-k-preserved c = (search rules, search state-more)

pub returns : goal.returns
returns c = search where-end
