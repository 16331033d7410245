-- `reader::line_end` meets its contract. Assumes nothing.
use Rattle.reader.proofs.Ends.{end-outside, end_short, end_none, end-other, end-here}
use Rattle.reader.proofs.line_end.Goals as goal

pub returns-then-text-at : goal.returns-then-text-at
returns-then-text-at c = search end-outside

pub returns-then-text-at-2 : goal.returns-then-text-at-2
returns-then-text-at-2 c = search end_short

pub returns-then-width-eq0 : goal.returns-then-width-eq0
returns-then-width-eq0 c = search end_none

pub returns-then-text-at-ne10 : goal.returns-then-text-at-ne10
returns-then-text-at-ne10 c = search end-other

pub returns : goal.returns
returns c = search end-here
