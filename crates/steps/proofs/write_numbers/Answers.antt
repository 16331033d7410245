-- `steps::write_numbers` meets its contract: `Wrote` at each place. Assumes nothing.
use mathlib.Core.Path.{refl}
use native.Mathlib.Omega.{arith}
use borrow.Author.Rules.{rules}
use Rattle.steps.proofs.Numbers.{ordered_at, wrote_none, wrote-more, wrote-end, number_at}
use Rattle.steps.proofs.write_numbers.Goals as goal

pub loop-k-init : goal.loop-k-init
loop-k-init c = (search rules, wrote_none _ _ _)

pub overflow_cast-order : goal.overflow_cast-order
overflow_cast-order c = omega (arith, ordered_at c.requires.c_in_bounds.1 c.loop-k.k c.loop-k-test.true, c.requires.formed.shape.vertices-le)

pub vertex_number-requires : goal.vertex_number-requires
vertex_number-requires c = (search rules, omega (arith, ordered_at c.requires.c_in_bounds.1 c.loop-k.k c.loop-k-test.true, c.requires.formed.shape.vertices-le))

pub loop-k-preserved : goal.loop-k-preserved
loop-k-preserved c =
    let h = c.loop-k-test.true in (
      search rules,
      wrote-more c.requires.c_in_bounds.1 c.loop-k.invariant.1 h c.requires.c_in_bounds.0 (number_at c.args.t.now c.requires.c_in_bounds.1 c.loop-k.k _ h c.vertex_number.ensures) refl,
    )

pub shape_of-out : goal.shape_of-out
shape_of-out c = c.loop-k.invariant.1.same

pub returns : goal.returns
returns c = search wrote-end
