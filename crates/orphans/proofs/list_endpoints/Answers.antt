-- `orphans::list_endpoints` meets its contract. Assumes nothing.
use Rattle.properties.proofs.Marking.{endpoints-listed}
use Rattle.orphans.proofs.list_endpoints.Goals as goal

pub returns : goal.returns
returns c = search endpoints-listed
