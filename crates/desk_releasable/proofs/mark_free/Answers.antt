-- `desk_releasable::mark_free` meets its contract. Assumes nothing.
use Rattle.lookups.specs.State.{no_marks}
use Rattle.desk_looks.proofs.Marking.{where-none, free_more, where-end}
use borrow.Author.Rules.{rules}
use Rattle.desk_releasable.proofs.mark_free.Goals as goal

pub loop-k-init : goal.loop-k-init
unfolding no_marks
loop-k-init c = (search rules, search where-none)

pub loop-k-preserved : goal.loop-k-preserved
loop-k-preserved c = (search rules, search free_more)

pub returns : goal.returns
returns c = search where-end
