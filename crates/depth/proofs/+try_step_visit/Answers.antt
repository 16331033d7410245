-- `depth::visit` and `depth::try_step` meet their contracts. Assumes nothing.
use Rattle.std.proofs.Common.{arith, sym, ◌∙◌}
use Rattle.depth.proofs.Dfs.{tried-refused, tried-due}
use Rattle.depth.proofs.Went.{went-none, went-as, fit-marked, fit-mark, going-fit, going-small, going-falls, visiting-more, visiting-room, visiting-end}
use Rattle.depth.proofs.+try_step_visit.Goals as goal

pub try_step-returns-then-hindered : goal.try_step-returns-then-hindered
try_step-returns-then-hindered t c =
    went-none c.requires.3 (λ f. tried-refused _ _ _ _ _ (sym c.hindered.ensures ∙ c.if-hindered.true))

pub try_step-returns : goal.try_step-returns
try_step-returns t c = went-as c.visit.ensures (λ f. tried-due _ _ _ _ _ (sym c.hindered.ensures ∙ c.if-hindered.false))

pub visit-try_step-end-requires : goal.visit-try_step-end-requires
visit-try_step-end-requires t c =
    let h = fit-mark c.requires.2 c.requires.0 c.requires.1 in
    let g = c.loop-k.invariant in (
      omega (arith, c.decreases, going-falls h c.args.marks.now (fit-marked c.requires.2 c.requires.0 c.requires.1) g),
      (c.requires.0, c.loop-k-test.true, g.left, going-fit h g),
    )

pub visit-overflow_add-end : goal.visit-overflow_add-end
visit-overflow_add-end t c =
    omega (arith, going-small (fit-mark c.requires.2 c.requires.0 c.requires.1) c.loop-k.invariant c.try_step-end.ensures)

pub visit-overflow_add-end-in-loop-k : goal.visit-overflow_add-end-in-loop-k
visit-overflow_add-end-in-loop-k t c =
    omega (arith, going-small (fit-mark c.requires.2 c.requires.0 c.requires.1) c.loop-k.invariant c.try_step-end.ensures)

pub visit-loop-k-preserved : goal.visit-loop-k-preserved
visit-loop-k-preserved t c =
    visiting-more _ _ (fit-mark c.requires.2 c.requires.0 c.requires.1) c.loop-k.invariant c.loop-k-test.true c.try_step-end.ensures (omega arith) c.untried-k.ensures

pub visit-offset_bounds-out-end : goal.visit-offset_bounds-out-end
visit-offset_bounds-out-end t c =
    omega (arith, visiting-room _ c.requires.2 c.requires.0 c.requires.1 c.loop-k.invariant)

pub visit-bounds-out-end : goal.visit-bounds-out-end
visit-bounds-out-end t c = omega (arith, visiting-room _ c.requires.2 c.requires.0 c.requires.1 c.loop-k.invariant)

pub visit-overflow_add-result : goal.visit-overflow_add-result
visit-overflow_add-result t c = omega (arith, visiting-room _ c.requires.2 c.requires.0 c.requires.1 c.loop-k.invariant)

pub visit-returns : goal.visit-returns
visit-returns t c = visiting-end _ c.requires.2 c.requires.0 c.requires.1 c.loop-k.invariant c.loop-k-test.false
