-- `read_states::read_states` meets its contract. Assumes nothing.
use Rattle.layout.proofs.Answers.{on-unformed, formed-by, on-formed}
use Rattle.read_states.proofs.read_states.Goals as goal

pub returns-then-not-well_formed : goal.returns-then-not-well_formed
returns-then-not-well_formed c = search on-unformed

pub read_formed-requires : goal.read_formed-requires
read_formed-requires c = search formed-by

pub returns : goal.returns
returns c = search on-formed
