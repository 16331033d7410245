-- `hyperedge_blocks::step_places` meets its contract. Assumes nothing.
use lib.ListN.{length}
use mathlib.Core.Path.{sym, ◌∙◌}
use Prim.Native.Nat.{◌+◌, ◌<◌}
use native.Mathlib.Omega.{arith}
use Rattle.lookups.proofs.Places.{counted_none, counted-yes, counted-no, counted-end}
use borrow.Author.Rules.{rules}
use Rattle.hyperedge_blocks.proofs.step_places.Goals as goal
use Rattle.hyperedge_blocks.proofs.step_places.Goals.{then-is_step, else-is_step}

pub loop-i-init : goal.loop-i-init
loop-i-init c = (search rules, counted_none _ _)

pub loop-i-preserved : goal.loop-i-preserved
loop-i-preserved c =
    let h : c.loop-i.i + 1 < length c.args.ms.now = omega arith in (
      omega arith,
      elim c.if-is_step.branch [ then-is_step w ↦ counted-yes c.loop-i.invariant.1 h (sym c.is_step.ensures ∙ w.if-is_step.true) w.n-is | else-is_step w ↦ counted-no c.loop-i.invariant.1 h (sym c.is_step.ensures ∙ w.if-is_step.false) w.n-is ],
    )

pub returns : goal.returns
returns c = counted-end c.loop-i.invariant.1 (omega arith)
