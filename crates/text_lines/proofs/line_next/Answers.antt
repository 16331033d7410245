-- `text_lines::line_next` meets its contract. Assumes nothing.
use Rattle.text_lines.proofs.Lines.{begins-behind, begins-none}
use Rattle.text_lines.proofs.line_next.Goals as goal

pub returns-then-end-text : goal.returns-then-end-text
returns-then-end-text c = search begins-behind

pub returns : goal.returns
returns c = search begins-none
