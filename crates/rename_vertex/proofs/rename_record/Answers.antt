-- `rename_vertex::rename_record` meets its contract. Assumes nothing.
use Rattle.rename_vertex.proofs.Renaming.{words-counted}
use Rattle.rename_vertex.proofs.rename_record.Goals as goal

pub returns : goal.returns
returns c = search words-counted
