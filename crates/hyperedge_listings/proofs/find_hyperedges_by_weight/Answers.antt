-- `hyperedge_listings::find_hyperedges_by_weight` meets its contract. Assumes nothing.
use Rattle.layout.proofs.Answers.{formed-by, on-unformed, on-formed}
use Rattle.hyperedge_listings.proofs.find_hyperedges_by_weight.Goals as goal

pub returns-then-not-well_formed : goal.returns-then-not-well_formed
returns-then-not-well_formed c = search on-unformed

pub list_blocks-requires : goal.list_blocks-requires
list_blocks-requires c = search formed-by

pub returns : goal.returns
returns c = search on-formed
