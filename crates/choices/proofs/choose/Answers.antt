-- `choices::choose` meets its contract. Assumes nothing.
use Rattle.steps.specs.Inner.{cell}
use Rattle.distance.proofs.Lists.{listed-room, listed_more, listed_kept}
use Rattle.paths.proofs.Values.{choose-first, choose-lighter, choose-kept}
use borrow.Author.Rules.{rules}
use Rattle.choices.proofs.choose.Goals as goal

pub append-requires : goal.append-requires
append-requires c = (search rules, search rules, search listed-room)

pub returns-then-h-eq0 : goal.returns-then-h-eq0
returns-then-h-eq0 c = (search choose-first, search listed_more)

pub returns-then-weight_at : goal.returns-then-weight_at
returns-then-weight_at c = (
  choose-lighter c.args.w.now c.args.c.now (cell c.args.a c.args.b) c.args.k c.if-h-eq0.false _ c.weight_at.ensures _ c.weight_at-2.ensures c.if-weight_at.true,
  search listed_kept,
)

pub returns-else-weight_at : goal.returns-else-weight_at
returns-else-weight_at c = (
  choose-kept c.args.w.now c.args.c.now (cell c.args.a c.args.b) c.args.k c.if-h-eq0.false _ c.weight_at.ensures _ c.weight_at-2.ensures c.if-weight_at.false,
  search rules,
)
