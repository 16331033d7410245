-- `depth::enter` and `depth::try_enter` meet their contracts. Assumes nothing.
use Rattle.std.proofs.Common.{◌-◌, arith, sym, ◌∙◌, get_or}
use Rattle.graph.specs.Reach.{matrix}
use Rattle.depth.proofs.Dfs.{due-free, tried-refused, tried-due}
use Rattle.depth.proofs.Went.{went-none, went-as, fit-marked, fit-place, fit-enter, going-fit, going-falls, entering-more, entering-end}
use Rattle.depth.proofs.+enter_try_enter.Goals as goal

pub enter-bounds-out-t : goal.enter-bounds-out-t
enter-bounds-out-t t c = omega (arith, fit-place c.requires.2 c.requires.0 c.requires.1)

pub enter-try_enter-end-requires : goal.enter-try_enter-end-requires
enter-try_enter-end-requires t c =
    let h = fit-enter c.requires.2 c.requires.0 c.requires.1 in
    let g = c.loop-k.invariant in (
      omega (arith, c.decreases, going-falls h c.args.marks.now (fit-marked c.requires.2 c.requires.0 c.requires.1) g),
      (c.requires.0, c.loop-k-test.true, g.left, going-fit h g),
    )

pub enter-loop-k-preserved : goal.enter-loop-k-preserved
enter-loop-k-preserved t c =
    entering-more _ _ (fit-enter c.requires.2 c.requires.0 c.requires.1) c.loop-k.invariant c.loop-k-test.true c.try_enter-end.ensures (omega arith) c.untried-k.ensures

pub enter-returns : goal.enter-returns
enter-returns t c = entering-end _ c.requires.2 c.requires.0 c.requires.1 c.loop-k.invariant c.loop-k-test.false

pub try_enter-returns-then-hindered : goal.try_enter-returns-then-hindered
try_enter-returns-then-hindered t c =
    went-none c.requires.3 (λ f. tried-refused _ _ _ _ _ (sym c.hindered.ensures ∙ c.if-hindered.true))

pub try_enter-enter-requires : goal.try_enter-enter-requires
try_enter-enter-requires t c =
    let free' = due-free (matrix c.args.adj.now c.args.x (c.args.n - c.args.k)) (get_or c.args.marks.now (c.args.n - c.args.k) 0) (sym c.hindered.ensures ∙ c.if-hindered.false) in
    (omega (arith, c.decreases, c.requires.1), (omega (arith, c.requires.1, c.requires.2), free', c.requires.3))

pub try_enter-returns : goal.try_enter-returns
try_enter-returns t c = went-as c.enter.ensures (λ f. tried-due _ _ _ _ _ (sym c.hindered.ensures ∙ c.if-hindered.false))
