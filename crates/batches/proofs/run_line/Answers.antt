-- `batches::run_line` meets its contract. Assumes nothing.
use Rattle.batches.proofs.Settling.{no_line, some-line, read_length}
use Rattle.batches.proofs.run_line.Goals as goal

pub returns-then-line-eq0 : goal.returns-then-line-eq0
returns-then-line-eq0 c = search no_line

pub slice_bounds-first-end : goal.slice_bounds-first-end
slice_bounds-first-end c = search read_length

pub returns : goal.returns
returns c = search some-line
