-- `query_sheets::first` meets its contract. Assumes nothing.
use Rattle.query_sheets.proofs.Taken.{count-taken, all-taken}
use Rattle.query_sheets.proofs.first.Goals as goal

pub slice_bounds-result-end : goal.slice_bounds-result-end
slice_bounds-result-end c = search count-taken

pub returns : goal.returns
returns c = search all-taken
