-- `text_lines::line_from` meets its contract: what stands behind the lines that are left is what stands behind k lines. Assumes nothing.
use Rattle.text_lines.proofs.Lines.{Passed}
use Rattle.text_lines.proofs.line_from.Given as goal

abbrev pub invariant-loop-i : goal.invariant-loop-i
invariant-loop-i l = Passed l.text l.k l._i l.from
