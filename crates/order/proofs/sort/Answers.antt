-- `order::sort` meets its contract. Assumes nothing.
use Rattle.order.proofs.State.{degrees-first, sorting-first, sorting-fits, sorting-word, sorting-next, sorting-less, sorting-owed, sorting-more, sorting-end}
use borrow.Author.Rules.{rules}
use Rattle.order.proofs.sort.Goals as goal

pub degrees-requires : goal.degrees-requires
degrees-requires c = (search rules, search degrees-first)

pub loop-v-init : goal.loop-v-init
loop-v-init c = search sorting-first

pub offset_bounds-out-t : goal.offset_bounds-out-t
offset_bounds-out-t c = search sorting-word

pub bounds-out-t : goal.bounds-out-t
bounds-out-t c = search sorting-fits

pub settle-requires : goal.settle-requires
settle-requires c = (search rules, search rules, search sorting-owed)

pub overflow_add-t : goal.overflow_add-t
overflow_add-t c = search sorting-next

pub loop-v-smaller : goal.loop-v-smaller
loop-v-smaller c = search sorting-less

pub loop-v-preserved : goal.loop-v-preserved
loop-v-preserved c = search sorting-more

pub returns : goal.returns
returns c = search sorting-end
