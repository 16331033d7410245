-- `orphans::get_endpoints` meets its contract. Assumes nothing.
use Rattle.layout.proofs.Answers.{formed-by, on-unformed, on-formed}
use Rattle.orphans.proofs.get_endpoints.Goals as goal

pub returns-then-not-well_formed : goal.returns-then-not-well_formed
returns-then-not-well_formed c = search on-unformed

pub list_endpoints-requires : goal.list_endpoints-requires
list_endpoints-requires c = search formed-by

pub returns : goal.returns
returns c = search on-formed
