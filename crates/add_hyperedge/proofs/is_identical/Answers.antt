-- `add_hyperedge::is_identical` meets its contract. Assumes nothing.
use Rattle.edits.proofs.Identical.{identical-weight, identical-members}
use Rattle.add_hyperedge.proofs.is_identical.Goals as goal

pub returns-then-hyperedge_weight-weight : goal.returns-then-hyperedge_weight-weight
returns-then-hyperedge_weight-weight c = search identical-weight

pub returns : goal.returns
returns c = search identical-members
