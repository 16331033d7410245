-- `choices::choices` meets its contract. Assumes nothing.
use Prim.Native.Nat.{◌≤◌}
use Rattle.distance.specs.Cost.{Listed}
use Rattle.paths.specs.Choices.{Choosing}
use Rattle.choices.proofs.choices.Given as goal

abbrev pub invariant-loop-j : goal.invariant-loop-j
invariant-loop-j l = (l.j ≤ l.k) × Choosing l.back l.t l.j l.c × Listed l.c l.lists l.counts
