-- `hypergraph::clear` meets its contract. Assumes nothing.
use Rattle.edits.proofs.Refusals.{clear-wrong, clear-done}
use Rattle.hypergraph.proofs.clear.Goals as goal

pub returns-then-t-ne-SIZE : goal.returns-then-t-ne-SIZE
returns-then-t-ne-SIZE c = search clear-wrong

pub returns : goal.returns
returns c = search clear-done
