-- `cut_vertices::reach_past` meets its contract. Assumes nothing.
use Rattle.cut.proofs.Searching.{cleared-of, reached-past}
use borrow.Author.Rules.{rules}
use Rattle.cut_vertices.proofs.reach_past.Goals as goal

pub restore_row-requires : goal.restore_row-requires
restore_row-requires c = (search rules, search cleared-of)

pub returns : goal.returns
returns c = (search (reached-past, cleared-of), search rules)
