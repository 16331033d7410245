-- `desk_releasable::hold_row` meets its contract. Assumes nothing.
use Rattle.desk_looks.proofs.Marking.{joining-none, row_more, joining-end}
use borrow.Author.Rules.{rules}
use Rattle.desk_releasable.proofs.hold_row.Goals as goal

pub loop-k-init : goal.loop-k-init
loop-k-init c = (search rules, search rules, search joining-none)

pub loop-k-preserved : goal.loop-k-preserved
loop-k-preserved c = (search rules, search rules, search row_more)

pub returns : goal.returns
returns c = search joining-end
