-- `text_lines::ends_in_cr_lf` meets its contract. Assumes nothing.
use Rattle.text_lines.proofs.Lines.{no-line-zero, no-feed, no_byte, last_byte}
use Rattle.text_lines.proofs.ends_in_cr_lf.Goals as goal

pub returns-then-line-eq0 : goal.returns-then-line-eq0
returns-then-line-eq0 c = search no-line-zero

pub returns-then-end-text : goal.returns-then-end-text
returns-then-end-text c = search no-feed

pub returns-then-end-from : goal.returns-then-end-from
returns-then-end-from c = search no_byte

pub returns : goal.returns
returns c = search last_byte
