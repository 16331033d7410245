-- `component_listings::is_connected` meets its contract. Assumes nothing.
use Rattle.layout.proofs.Answers.{on-unformed, formed-by, on-formed}
use Rattle.component_listings.proofs.is_connected.Goals as goal

pub returns-then-not-well_formed : goal.returns-then-not-well_formed
returns-then-not-well_formed c = search on-unformed

pub connected-requires : goal.connected-requires
connected-requires c = search formed-by

pub returns : goal.returns
returns c = search on-formed
