-- `vertex_weights::mark_weighing` meets its contract. Assumes nothing.
use Prim.Native.Nat.{◌≤◌}
use Rattle.lookups.proofs.Weights.{Weighed}
use Rattle.vertex_weights.proofs.mark_weighing.Given as goal

abbrev pub invariant-loop-k : goal.invariant-loop-k
invariant-loop-k l = (l.k ≤ l.n) × Weighed l.weight l.t l.k l.marks
