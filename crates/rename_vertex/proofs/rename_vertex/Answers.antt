-- `rename_vertex::rename_vertex` meets its contract: `Renamed` at each record. Assumes nothing.
use borrow.Author.Rules.{rules}
use Rattle.rename_vertex.proofs.Renaming.{renamed-none, renamed-count, renamed-turn, renamed-end}
use Rattle.rename_vertex.proofs.rename_vertex.Goals as goal

pub loop-j-init : goal.loop-j-init
loop-j-init c = (search rules, search rules, renamed-none _ _ _ _)

pub rename_record-requires : goal.rename_record-requires
rename_record-requires c = (search rules, (search rules, search renamed-count))

pub loop-j-preserved : goal.loop-j-preserved
loop-j-preserved c = (search rules, search rules, search renamed-turn)

pub shape_of-t : goal.shape_of-t
shape_of-t c = c.loop-j.invariant.2.same

pub returns : goal.returns
returns c = search renamed-end
