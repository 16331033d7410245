-- `depth::finish_order` meets its contract. Assumes nothing.
use Rattle.depth.specs.Swept.{Swept}
use Rattle.graph.specs.Reach.{matrix}
use Rattle.depth.proofs.finish_order.Given as goal

abbrev pub invariant-loop-x : goal.invariant-loop-x
invariant-loop-x l = Swept (matrix l.adj) l.n l.marks l.out l.t l.x
