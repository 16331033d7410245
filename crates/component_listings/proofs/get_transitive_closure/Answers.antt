-- `component_listings::get_transitive_closure` meets its contract. Assumes nothing.
use Rattle.layout.proofs.Answers.{on-unformed, formed-by, on-formed}
use Rattle.component_listings.proofs.get_transitive_closure.Goals as goal

pub returns-then-not-well_formed : goal.returns-then-not-well_formed
returns-then-not-well_formed c = search on-unformed

pub list_closure-requires : goal.list_closure-requires
list_closure-requires c = search formed-by

pub returns : goal.returns
returns c = search on-formed
