-- `state_lines::is_line` meets its contract. Assumes nothing.
use mathlib.Core.Path.{sym, ◌∙◌}
use native.Mathlib.Omega.{arith}
use lib.Seq.{length-take-le}
use Rattle.edits.proofs.Identical.{same-pointwise}
use Rattle.state_lines.proofs.Judging.{written-within, written_same}
use Rattle.state_lines.proofs.is_line.Goals as goal

pub slice_bounds-written-end : goal.slice_bounds-written-end
slice_bounds-written-end c = omega (arith, written-within _ _ _ _ c.put_state-n.ensures)

pub slice_bounds-eq-end : goal.slice_bounds-eq-end
slice_bounds-eq-end c = sym (length-take-le _ _ (omega (arith, written-within _ _ _ _ c.put_state-n.ensures)))

pub returns : goal.returns
returns c = written_same _ _ _ _ c.put_state-n.ensures _ _ (c.eq.ensures ∙ same-pointwise _ _)
