-- `component_listings::connected_components` meets its contract. Assumes nothing.
use Rattle.layout.proofs.Answers.{on-unformed, formed-by, on-formed}
use Rattle.component_listings.proofs.connected_components.Goals as goal

pub returns-then-not-well_formed : goal.returns-then-not-well_formed
returns-then-not-well_formed c = search on-unformed

pub list_connected-requires : goal.list_connected-requires
list_connected-requires c = search formed-by

pub returns : goal.returns
returns c = search on-formed
