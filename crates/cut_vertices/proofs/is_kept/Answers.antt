-- `cut_vertices::is_kept` meets its contract. Assumes nothing.
use Rattle.cut.proofs.Searching.{kept-other, kept-mate}
use Rattle.cut_vertices.proofs.is_kept.Goals as goal

pub returns-then-not-is_mate : goal.returns-then-not-is_mate
returns-then-not-is_mate c = search kept-other

pub returns : goal.returns
returns c = search kept-mate
