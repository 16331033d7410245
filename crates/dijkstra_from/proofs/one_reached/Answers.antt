-- `dijkstra_from::one_reached` meets its contract. Assumes nothing.
use Rattle.paths.proofs.Writing.{reached-yes, reached-no}
use Rattle.dijkstra_from.proofs.one_reached.Goals as goal

pub returns-then-mark-eq2 : goal.returns-then-mark-eq2
returns-then-mark-eq2 c = search reached-yes

pub returns : goal.returns
returns c = search reached-no
