-- `topological_sort::sort_records` meets its contract. Assumes nothing.
use Rattle.structural.proofs.SortingAnswers.{sorted-records}
use Rattle.topological_sort.proofs.sort_records.Goals as goal

pub returns : goal.returns
returns c = search sorted-records
