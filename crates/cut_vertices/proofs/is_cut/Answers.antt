-- `cut_vertices::is_cut` meets its contract. Assumes nothing.
use Rattle.cut.proofs.Parting.{cut-none}
use borrow.Author.Rules.{rules}
use Rattle.cut_vertices.proofs.is_cut.Goals as goal

pub returns : goal.returns
returns c = (search cut-none, search rules)
