-- `text_lines::line_end` meets its contract: the bytes that are passed are of the line. Assumes nothing.
use Rattle.text_lines.proofs.Lines.{Runs}
use Rattle.text_lines.proofs.line_end.Given as goal

abbrev pub invariant-loop-i : goal.invariant-loop-i
invariant-loop-i l = Runs l.text l.from l.i
