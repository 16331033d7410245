-- `cut_vertices::first_mate` meets its contract: none before the place. Assumes nothing.
use Rattle.graph.specs.Reach.{matrix}
use Rattle.cut.proofs.Searching.{Unmet}
use Rattle.cut_vertices.proofs.first_mate.Given as goal

abbrev pub invariant-loop-j : goal.invariant-loop-j
invariant-loop-j l = Unmet (matrix l.m) l.v l.n l.j
