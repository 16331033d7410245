-- `topological_sort::topological_sort` meets its contract. Assumes nothing.
use Rattle.layout.proofs.Answers.{on-unformed, formed-by, on-formed}
use Rattle.topological_sort.proofs.topological_sort.Goals as goal

pub returns-then-not-well_formed : goal.returns-then-not-well_formed
returns-then-not-well_formed c = search on-unformed

pub sorted-requires : goal.sorted-requires
sorted-requires c = search formed-by

pub returns : goal.returns
returns c = search on-formed
