-- `text_lines::line_from` meets its contract: what stands behind the lines that are left is what stands behind k lines. Assumes nothing.
use Rattle.text_lines.proofs.Lines.{passed_first, passed-line, passed-all}
use Rattle.text_lines.proofs.line_from.Goals as goal

pub loop-i-init : goal.loop-i-init
loop-i-init c = search passed_first

pub loop-i-preserved : goal.loop-i-preserved
loop-i-preserved c = search passed-line

pub returns : goal.returns
returns c = search passed-all
