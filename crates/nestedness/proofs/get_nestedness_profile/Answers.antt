-- `nestedness::get_nestedness_profile` meets its contract. Assumes nothing.
use Rattle.layout.proofs.Answers.{formed-by, on-unformed, on-formed}
use Rattle.nestedness.proofs.get_nestedness_profile.Goals as goal

pub returns-then-not-well_formed : goal.returns-then-not-well_formed
returns-then-not-well_formed c = search on-unformed

pub list_profile-requires : goal.list_profile-requires
list_profile-requires c = search formed-by

pub returns : goal.returns
returns c = search on-formed
