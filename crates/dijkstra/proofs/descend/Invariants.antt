-- `dijkstra::descend` meets its contract. Assumes nothing.
use Rattle.distance.specs.Cost.{step_back, key_back}
use Rattle.distance.specs.Descent.{Down}
use Rattle.dijkstra.proofs.descend.Given as goal

abbrev pub invariant-loop-at : goal.invariant-loop-at
invariant-loop-at l = Down (step_back l.c) (key_back l.c l.w) l.n l.m l.d l.x l.at l.u l.out
