-- `cut_vertices::parts_mates` meets its contract. Assumes nothing.
use Rattle.cut.proofs.Parting.{cut-found}
use borrow.Author.Rules.{rules}
use Rattle.cut_vertices.proofs.parts_mates.Goals as goal

pub returns : goal.returns
returns c = (search cut-found, search rules)
