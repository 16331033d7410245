-- `graph::expand` meets its contract: `Sifted` at each of the numbers outside the queue. Assumes nothing.
use Rattle.graph.specs.Reach.{matrix}
use Rattle.graph.specs.Sifted.{Sifted}
use lib.ListN.{take}
use Rattle.graph.proofs.expand.Given as goal

abbrev pub invariant-loop-k : goal.invariant-loop-k
invariant-loop-k l = Sifted (matrix l.adj) l.n l.x l.tail (take l.tail l.initial.order) l.marks l.order l.rest l.end l.k
