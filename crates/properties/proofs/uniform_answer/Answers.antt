-- `properties::uniform_answer` meets its contract. Assumes nothing.
use Rattle.lookups.proofs.Weights.{answer-yes, answer-no}
use Rattle.properties.proofs.uniform_answer.Goals as goal

pub returns-then-uniform : goal.returns-then-uniform
returns-then-uniform c = search answer-yes

pub returns : goal.returns
returns c = search answer-no
