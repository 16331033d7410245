-- `cut_vertices::cut_vertices_formed` meets its contract. Assumes nothing.
use mathlib.Core.Bool.{Bool, false}
use lib.ListN.{length-replicate}
use Rattle.cut.proofs.Cuts.{symmetric-by, cuts-listed}
use borrow.Author.Rules.{rules}
use Rattle.cut_vertices.proofs.cut_vertices_formed.Goals as goal

pub judge-requires : goal.judge-requires
judge-requires c = (search rules, search symmetric-by, length-replicate {A = Bool} 256 false)

pub returns : goal.returns
returns c = search cuts-listed
