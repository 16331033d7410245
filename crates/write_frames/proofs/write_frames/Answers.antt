-- `write_frames::write_frames` meets its contract. Assumes nothing.
use Rattle.layout.proofs.Answers.{formed-by, on-unformed, on-formed}
use Rattle.write_frames.proofs.write_frames.Goals as goal

pub returns-then-not-well_formed : goal.returns-then-not-well_formed
returns-then-not-well_formed c = search on-unformed

pub write_formed-requires : goal.write_formed-requires
write_formed-requires c = search formed-by

pub returns : goal.returns
returns c = search on-formed
