-- `rings::go_back` meets its contract. Assumes nothing.
use Rattle.graph.specs.Reach.{matrix}
use Rattle.rings.specs.State.{Going}
use Rattle.rings.proofs.go_back.Given as goal

abbrev pub invariant-loop-c : goal.invariant-loop-c
invariant-loop-c l = Going (matrix l.adj) l.n l.x l.path l.a l.y l.c

abbrev pub decreases-loop-c : goal.decreases-loop-c
decreases-loop-c l = l.a
