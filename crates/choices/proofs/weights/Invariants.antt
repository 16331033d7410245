-- `choices::weights` meets its contract. Assumes nothing.
use Prim.Native.Nat.{◌≤◌}
use Rattle.layout.specs.Layout.{limit, read}
use Rattle.paths.specs.Choices.{Weights}
use Rattle.choices.proofs.weights.Given as goal

abbrev pub invariant-loop-j : goal.invariant-loop-j
invariant-loop-j l = (l.j ≤ l.k) × Weights (read limit l.t) l.j l.w
