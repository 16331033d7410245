-- `relaxed::relax_one` meets its contract. Assumes nothing.
use native.Mathlib.Nat.{lt_irrefl}
use native.Mathlib.Omega.{arith}
use Rattle.distance.proofs.Cost.{relax-none, relax-fresh, relax-settled, relax-shorter, relax-kept}
use borrow.Author.Rules.{rules}
use Rattle.relaxed.proofs.relax_one.Goals as goal

pub returns-then-h-eq0 : goal.returns-then-h-eq0
returns-then-h-eq0 c = (search relax-none, search rules)

pub label-requires : goal.label-requires
label-requires c = (search rules, search rules, search rules, search rules, λ o. absurd (lt_irrefl 0 (omega (arith, o))), search rules)

pub returns-then-m-v-eq0 : goal.returns-then-m-v-eq0
returns-then-m-v-eq0 c = (search relax-fresh, search rules)

pub returns-then-m-v-ne1 : goal.returns-then-m-v-ne1
returns-then-m-v-ne1 c = (
  relax-settled c.args.c.now c.args.w.now c.args.u c.args.v c.args.base c.args.m.now c.args.d.now
      c.if-h-eq0.false _ c.cost_of.ensures _ c.by-key.ensures c.if-m-v-eq0.false c.if-m-v-ne1.true,
  search rules,
)

pub label-requires-then-key-d : goal.label-requires-then-key-d
label-requires-then-key-d c = (search rules, search rules, search rules, search rules, λ _. omega arith, search rules)

pub returns-then-key-d : goal.returns-then-key-d
returns-then-key-d c = (search relax-shorter, search rules)

pub returns-else-key-d : goal.returns-else-key-d
returns-else-key-d c = (search relax-kept, search rules)
