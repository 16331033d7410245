-- `properties::is_k_uniform` meets its contract. Assumes nothing.
use Rattle.layout.proofs.Answers.{formed-by, on-unformed, on-formed}
use Rattle.properties.proofs.is_k_uniform.Goals as goal

pub returns-then-not-well_formed : goal.returns-then-not-well_formed
returns-then-not-well_formed c = search on-unformed

pub uniform_answer-requires : goal.uniform_answer-requires
uniform_answer-requires c = search formed-by

pub returns : goal.returns
returns c = search on-formed
