-- `dijkstra::dijkstra` meets its contract. Assumes nothing.
use Rattle.distance.specs.Cost.{step_in, key_in, Search}
use Rattle.distance.specs.Labels.{unsettled}
use Rattle.distance.specs.Blocks.{Blocks}
use Rattle.dijkstra.proofs.dijkstra.Given as goal

abbrev pub invariant-loop-u : goal.invariant-loop-u
invariant-loop-u l = Search (step_in l.c) (key_in l.c l.w) l.n l.s l.m l.d l.u × Blocks l.n l.m l.d l.b

abbrev pub decreases-loop-u : goal.decreases-loop-u
decreases-loop-u l = unsettled l.n l.m
