-- `cut_vertices::clear_row` meets its contract: the row up to the place. Assumes nothing.
use Rattle.cut.proofs.Searching.{cleared-none, cleared_more, cleared-end}
use borrow.Author.Rules.{rules}
use Rattle.cut_vertices.proofs.clear_row.Goals as goal

pub loop-j-init : goal.loop-j-init
loop-j-init c = (search rules, search cleared-none)

pub loop-j-preserved : goal.loop-j-preserved
loop-j-preserved c = (search rules, search cleared_more)

pub returns : goal.returns
returns c = search cleared-end
