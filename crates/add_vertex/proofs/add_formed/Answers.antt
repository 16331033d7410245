-- `add_vertex::add_formed` meets its contract. Assumes nothing.
use Rattle.edits.proofs.AddVertex.{add-vertex-full, add-vertex-spent, add-vertex-done}
use Rattle.add_vertex.proofs.add_formed.Goals as goal

pub returns-then-n-ge-VERTEX_LIMIT : goal.returns-then-n-ge-VERTEX_LIMIT
returns-then-n-ge-VERTEX_LIMIT c = search add-vertex-full

pub returns-then-x : goal.returns-then-x
returns-then-x c = search add-vertex-spent

pub returns : goal.returns
returns c = search add-vertex-done
