-- `side_by_side::places_beside` meets its contract. Assumes nothing.
use mathlib.Core.Path.{sym, ◌∙◌}
use native.Mathlib.Omega.{arith}
use borrow.Author.Rules.{rules}
use Rattle.lookups.proofs.Places.{counted_none, counted-yes, counted-no, counted-end}
use Rattle.side_by_side.proofs.places_beside.Goals as goal
use Rattle.side_by_side.proofs.places_beside.Goals.{then-beside, else-beside}

pub loop-i-init : goal.loop-i-init
loop-i-init c = (search rules, counted_none _ _)

pub loop-i-preserved : goal.loop-i-preserved
loop-i-preserved c =
    let k = c.loop-i.invariant.1 in (
      omega arith,
      elim c.if-beside.branch [ then-beside q ↦ counted-yes k (omega arith) (sym c.beside.ensures ∙ q.if-beside.true) q.n-is | else-beside q ↦ counted-no k (omega arith) (sym c.beside.ensures ∙ q.if-beside.false) q.n-is ],
    )

pub returns : goal.returns
returns c = counted-end c.loop-i.invariant.1 (omega arith)
