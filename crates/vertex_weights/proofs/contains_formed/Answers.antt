-- `vertex_weights::contains_formed` meets its contract. Assumes nothing.
use Rattle.lookups.proofs.Weights.{answer-yes, answer-no}
use Rattle.vertex_weights.proofs.contains_formed.Goals as goal

pub returns-then-has_weight : goal.returns-then-has_weight
returns-then-has_weight c = search answer-yes

pub returns : goal.returns
returns c = search answer-no
