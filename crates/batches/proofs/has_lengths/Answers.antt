-- `batches::has_lengths` meets its contract. Assumes nothing.
use Rattle.batches.proofs.Carrying.{another-table, other-states, batch-length}
use Rattle.batches.proofs.has_lengths.Goals as goal

pub returns-then-t-ne-SIZE : goal.returns-then-t-ne-SIZE
returns-then-t-ne-SIZE c = search another-table

pub returns-then-s-ne-VERTEX_LIMIT : goal.returns-then-s-ne-VERTEX_LIMIT
returns-then-s-ne-VERTEX_LIMIT c = search other-states

pub returns : goal.returns
returns c = search batch-length
