-- `rename_vertex::read_as` meets its contract. Assumes nothing.
use Rattle.rename_vertex.proofs.Renaming.{as-v, as-itself}
use Rattle.rename_vertex.proofs.read_as.Goals as goal

pub returns-then-x-w : goal.returns-then-x-w
returns-then-x-w c = search as-v

pub returns : goal.returns
returns c = search as-itself
