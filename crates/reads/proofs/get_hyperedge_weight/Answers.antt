-- `reads::get_hyperedge_weight` meets its contract. Assumes nothing.
use Rattle.layout.proofs.Answers.{formed-by, on-unformed, on-formed}
use Rattle.reads.proofs.get_hyperedge_weight.Goals as goal

pub returns-then-not-well_formed : goal.returns-then-not-well_formed
returns-then-not-well_formed c = search on-unformed

pub hyperedge_weight_formed-requires : goal.hyperedge_weight_formed-requires
hyperedge_weight_formed-requires c = search formed-by

pub returns : goal.returns
returns c = search on-formed
