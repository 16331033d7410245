-- `strong::expand` meets its contract. The invariant: what is left of the round, from j on, makes of the queue so far what the whole round makes of it at the start.
-- Assumes nothing.
use Rattle.components.specs.Parts.{flagged}
use Rattle.strong.specs.State.{inside}
use Rattle.strong.proofs.Inside.{spread-step, spread_end, held-full}
use Rattle.graph.proofs.Held.{held-as}
use Rattle.graph.specs.Bfs.{spread}
use Rattle.graph.specs.Reach.{matrix}
use mathlib.Core.Path.{sym, ap, ◌∙◌}
use native.Mathlib.Nat.{sub-zero}
use native.Mathlib.Omega.{arith}
use Rattle.strong.proofs.expand.Goals as goal

pub returns-then-tail-n : goal.returns-then-tail-n
returns-then-tail-n c =
    held-full (inside (matrix c.args.adj.now) (flagged c.args.free.now)) c.args.x c.requires.2 c.if-tail-n.true

pub loop-j-init : goal.loop-j-init
loop-j-init c = (omega arith, c.requires.2, rw sub-zero)

pub touch-end-requires : goal.touch-end-requires
touch-end-requires c = (omega arith, omega arith, omega arith, c.loop-j.invariant.1)

pub loop-j-preserved : goal.loop-j-preserved
loop-j-preserved c = (
  omega arith,
  held-as c.touch-end.ensures c.touch-end.ensures.queue,
  ap (spread _ _ _ _) c.touch-end.ensures.queue ∙ sym (spread-step _ _ _ _ _ c.loop-j-test.true) ∙ c.loop-j.invariant.2,
)

pub returns : goal.returns
returns c =
    let at = c.loop-j.invariant in
    held-as at.1 (sym at.2 ∙ spread_end _ _ _ _ _ c.loop-j-test.false)
