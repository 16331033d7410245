-- `vertex_weights::list_weighing` meets its contract. Assumes nothing.
use Rattle.lookups.proofs.Weights.{weighing-listed}
use Rattle.vertex_weights.proofs.list_weighing.Goals as goal

pub returns : goal.returns
returns c = search weighing-listed
