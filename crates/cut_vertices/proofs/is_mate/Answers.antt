-- `cut_vertices::is_mate` meets its contract. Assumes nothing.
use Rattle.cut.proofs.Searching.{mate-self, mate-other}
use Rattle.cut_vertices.proofs.is_mate.Goals as goal

pub returns-then-j-v : goal.returns-then-j-v
returns-then-j-v c = search mate-self

pub returns : goal.returns
returns c = search mate-other
