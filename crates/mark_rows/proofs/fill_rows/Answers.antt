-- `mark_rows::fill_rows` meets its contract. Assumes nothing.
use native.Mathlib.Omega.{arith}
use Rattle.mark_rows.proofs.Rows.{filled-first, filled_more, filled-end}
use Rattle.mark_rows.proofs.fill_rows.Goals as goal

pub loop-x-init : goal.loop-x-init
loop-x-init c = (omega arith, filled-first _ _ _ c.requires.1)

pub fill_row-requires : goal.fill_row-requires
fill_row-requires c = (c.requires.0, omega arith, c.loop-x.invariant.1.long)

pub loop-x-preserved : goal.loop-x-preserved
loop-x-preserved c = (omega arith, search filled_more)

pub returns : goal.returns
returns c = search filled-end
