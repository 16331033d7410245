-- `inclusions::get_inclusions` meets its contract. Assumes nothing.
use Rattle.layout.proofs.Answers.{formed-by, on-unformed, on-formed}
use Rattle.inclusions.proofs.get_inclusions.Goals as goal

pub returns-then-not-well_formed : goal.returns-then-not-well_formed
returns-then-not-well_formed c = search on-unformed

pub list_inclusions-requires : goal.list_inclusions-requires
list_inclusions-requires c = search formed-by

pub returns : goal.returns
returns c = search on-formed
