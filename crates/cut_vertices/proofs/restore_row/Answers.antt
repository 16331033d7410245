-- `cut_vertices::restore_row` meets its contract: the row up to the place. Assumes nothing.
use Rattle.cut.proofs.Searching.{restored-none, restored-more, restored-end}
use Rattle.cut_vertices.proofs.restore_row.Goals as goal

pub loop-j-init : goal.loop-j-init
loop-j-init c = search restored-none

pub loop-j-preserved : goal.loop-j-preserved
loop-j-preserved c = search restored-more

pub returns : goal.returns
returns c = search restored-end
