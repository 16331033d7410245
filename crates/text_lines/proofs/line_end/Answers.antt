-- `text_lines::line_end` meets its contract: the bytes that are passed are of the line. Assumes nothing.
use Rattle.text_lines.proofs.Lines.{runs-first, runs-byte, runs-feed, runs-end}
use Rattle.text_lines.proofs.line_end.Goals as goal

pub loop-i-init : goal.loop-i-init
loop-i-init c = search runs-first

pub returns-then-text-i-eq10 : goal.returns-then-text-i-eq10
returns-then-text-i-eq10 c = search runs-feed

pub loop-i-preserved : goal.loop-i-preserved
loop-i-preserved c = search runs-byte

pub returns : goal.returns
returns c = search runs-end
