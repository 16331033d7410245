-- `add_hyperedge::add_new` meets its contract. Assumes nothing.
use Rattle.edits.proofs.AddHyperedge.{add-hyperedge-full, add-hyperedge-spent, add-hyperedge-done}
use Rattle.add_hyperedge.proofs.add_new.Goals as goal

pub returns-then-m-ge-HYPEREDGE_LIMIT : goal.returns-then-m-ge-HYPEREDGE_LIMIT
returns-then-m-ge-HYPEREDGE_LIMIT c = search add-hyperedge-full

pub returns-then-x : goal.returns-then-x
returns-then-x c = search add-hyperedge-spent

pub returns : goal.returns
returns c = search add-hyperedge-done
