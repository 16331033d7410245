-- `traversal::reached` meets its contract. Assumes nothing.
use Rattle.traversal.proofs.Reaching.{reached-is, reached-fits}
use Rattle.traversal.proofs.reached.Goals as goal

pub overflow_cast-result : goal.overflow_cast-result
overflow_cast-result c = search reached-fits

pub returns : goal.returns
returns c = search reached-is
