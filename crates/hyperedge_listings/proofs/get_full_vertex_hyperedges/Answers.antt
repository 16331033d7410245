-- `hyperedge_listings::get_full_vertex_hyperedges` meets its contract. Assumes nothing.
use Rattle.layout.proofs.Answers.{formed-by, on-unformed, on-formed}
use Rattle.hyperedge_listings.proofs.get_full_vertex_hyperedges.Goals as goal

pub returns-then-not-well_formed : goal.returns-then-not-well_formed
returns-then-not-well_formed c = search on-unformed

pub list_of_vertex-requires : goal.list_of_vertex-requires
list_of_vertex-requires c = search formed-by

pub returns : goal.returns
returns c = search on-formed
