-- `rings::go_back` meets its contract. Assumes nothing.
use Rattle.rings.proofs.Going.{going-first, going-some, going-place, going_before, going_less, going_more, going-within, going_end}
use borrow.Author.Rules.{rules}
use Rattle.rings.proofs.go_back.Goals as goal

pub loop-c-init : goal.loop-c-init
loop-c-init c = search going-first

pub overflow_sub-a : goal.overflow_sub-a
overflow_sub-a c = search going-some

pub bounds-path-a : goal.bounds-path-a
bounds-path-a c = search going-place

pub met-c-requires : goal.met-c-requires
met-c-requires c = (search going_before, search rules)

pub loop-c-smaller : goal.loop-c-smaller
loop-c-smaller c = search going_less

pub loop-c-preserved : goal.loop-c-preserved
loop-c-preserved c = search going_more

pub to_front-requires : goal.to_front-requires
to_front-requires c = (search going-within, search rules)

pub returns : goal.returns
returns c = search going_end
