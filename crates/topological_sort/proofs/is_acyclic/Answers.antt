-- `topological_sort::is_acyclic` meets its contract. Assumes nothing.
use Rattle.layout.proofs.Answers.{on-unformed, formed-by, on-formed}
use Rattle.topological_sort.proofs.is_acyclic.Goals as goal

pub returns-then-not-well_formed : goal.returns-then-not-well_formed
returns-then-not-well_formed c = search on-unformed

pub acyclic-requires : goal.acyclic-requires
acyclic-requires c = search formed-by

pub returns : goal.returns
returns c = search on-formed
