-- `cut_vertices::first_mate` meets its contract: none before the place. Assumes nothing.
use Rattle.cut.proofs.Searching.{unmet-none, unmet-more, unmet-found, unmet-end}
use Rattle.cut_vertices.proofs.first_mate.Goals as goal

pub loop-j-init : goal.loop-j-init
loop-j-init c = search unmet-none

pub returns-then-is_mate : goal.returns-then-is_mate
returns-then-is_mate c = search unmet-found

pub loop-j-preserved : goal.loop-j-preserved
loop-j-preserved c = search unmet-more

pub returns : goal.returns
returns c = search unmet-end
