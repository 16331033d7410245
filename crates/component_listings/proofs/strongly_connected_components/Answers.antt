-- `component_listings::strongly_connected_components` meets its contract. Assumes nothing.
use Rattle.layout.proofs.Answers.{on-unformed, formed-by, on-formed}
use Rattle.component_listings.proofs.strongly_connected_components.Goals as goal

pub returns-then-not-well_formed : goal.returns-then-not-well_formed
returns-then-not-well_formed c = search on-unformed

pub list_strong-requires : goal.list_strong-requires
list_strong-requires c = search formed-by

pub returns : goal.returns
returns c = search on-formed
