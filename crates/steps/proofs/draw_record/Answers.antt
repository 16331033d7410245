-- `steps::draw_record` meets its contract: `Drawing` at each place of the list. Assumes nothing.
use borrow.Author.Rules.{rules}
use Rattle.steps.proofs.Members.{members-some, members-live, place-below, next-below, next-end}
use Rattle.steps.proofs.Drawing.{drawing-first, drawing-more, drawing-end}
use Rattle.steps.proofs.draw_record.Goals as goal

pub bounds-ms-0 : goal.bounds-ms-0
bounds-ms-0 c = search members-some

pub place-a-requires : goal.place-a-requires
place-a-requires c = record { formed = search rules; x_value = search (members-live, members-some) }

pub loop-i-init : goal.loop-i-init
loop-i-init c = search (drawing-first, members-some)

pub overflow_sub-i-end : goal.overflow_sub-i-end
overflow_sub-i-end c = search members-some

pub place-b-requires : goal.place-b-requires
place-b-requires c = record { formed = search rules; x_value = search (members-live, next-below) }

pub put_step-requires : goal.put_step-requires
put_step-requires c = (search place-below, search place-below)

pub loop-i-preserved : goal.loop-i-preserved
loop-i-preserved c = search (drawing-more, next-below)

pub returns : goal.returns
returns c = search (drawing-end, next-end)
