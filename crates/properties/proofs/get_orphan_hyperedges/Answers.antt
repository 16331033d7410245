-- `properties::get_orphan_hyperedges` meets its contract: no list of a well-formed table is empty. Assumes nothing.
use Rattle.layout.proofs.Answers.{on-unformed}
use Rattle.properties.proofs.Members.{none-listed}
use Rattle.properties.proofs.get_orphan_hyperedges.Goals as goal

pub returns-then-not-well_formed : goal.returns-then-not-well_formed
returns-then-not-well_formed c = search on-unformed

pub returns : goal.returns
returns c = search none-listed
