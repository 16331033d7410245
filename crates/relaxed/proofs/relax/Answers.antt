-- `relaxed::relax` meets its contract. Assumes nothing.
use mathlib.Core.Path.{refl}
use native.Mathlib.Omega.{arith}
use Rattle.distance.proofs.Cost.{part-first, part-more, part_end, listed-short, listed_below}
use borrow.Author.Rules.{rules}
use Rattle.relaxed.proofs.relax.Goals as goal

pub overflow_cast-end : goal.overflow_cast-end
overflow_cast-end c = omega (arith, listed-short c.requires.6 c.args.n c.args.u _ c.requires.0 c.requires.1 refl)

pub loop-i-init : goal.loop-i-init
loop-i-init c = (refl, search listed-short, search rules, search part-first, search rules)

pub overflow_cast-lists : goal.overflow_cast-lists
overflow_cast-lists c =
    let i = c.loop-i in
    omega (arith, c.requires.0, listed_below c.requires.6 c.args.n c.args.u _ c.requires.0 c.requires.1 i.invariant.0 c.requires.7 i.i c.loop-i-test.true)

pub relax_one-requires : goal.relax_one-requires
relax_one-requires c = (search rules, search rules, search listed_below, search rules, search rules, search rules, search rules)

pub loop-i-preserved : goal.loop-i-preserved
loop-i-preserved c = (search rules, search rules, search rules, search (part-more, listed_below), search rules)

pub returns : goal.returns
returns c = (search part_end, search rules)
