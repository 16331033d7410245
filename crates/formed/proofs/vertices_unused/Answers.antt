-- `formed::vertices_unused` meets its contract. Assumes nothing.
use Rattle.formed.proofs.Judged.{vertices-are}
use Rattle.formed.proofs.vertices_unused.Goals as goal

pub returns : goal.returns
returns c = search vertices-are
