-- `topological_sort::acyclic` meets its contract. Assumes nothing.
use Rattle.structural.proofs.SortingAnswers.{acyclic-yes, acyclic-no}
use Rattle.topological_sort.proofs.acyclic.Goals as goal

pub returns-then-sort_records : goal.returns-then-sort_records
returns-then-sort_records c = search acyclic-yes

pub returns : goal.returns
returns c = search acyclic-no
