-- `commands::opening` meets its contract. Assumes nothing.
use Rattle.commands.proofs.Names.{prefix-fits, prefix-length, opened-by}
use Rattle.commands.proofs.opening.Goals as goal

pub slice_bounds-name-end : goal.slice_bounds-name-end
slice_bounds-name-end c = search prefix-fits

pub slice_bounds-opens-end : goal.slice_bounds-opens-end
slice_bounds-opens-end c = search prefix-length

pub returns : goal.returns
returns c = search opened-by
