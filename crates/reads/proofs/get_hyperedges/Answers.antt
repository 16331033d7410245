-- `reads::get_hyperedges` meets its contract. Assumes nothing.
use Rattle.layout.proofs.Answers.{formed-by, on-unformed, on-formed}
use Rattle.reads.proofs.get_hyperedges.Goals as goal

pub returns-then-not-well_formed : goal.returns-then-not-well_formed
returns-then-not-well_formed c = search on-unformed

pub hyperedges_formed-requires : goal.hyperedges_formed-requires
hyperedges_formed-requires c = search formed-by

pub returns : goal.returns
returns c = search on-formed
