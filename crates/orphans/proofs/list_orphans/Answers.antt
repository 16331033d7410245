-- `orphans::list_orphans` meets its contract. Assumes nothing.
use Rattle.properties.proofs.Marking.{orphans-listed}
use Rattle.orphans.proofs.list_orphans.Goals as goal

pub returns : goal.returns
returns c = search orphans-listed
