-- `closure::count_pairs` meets its contract. Assumes nothing.
use mathlib.Core.Path.{◌≡◌}
use Prim.Native.Nat.{◌*◌, ◌≤◌}
use Rattle.graph.specs.Reach.{matrix}
use Rattle.closure.specs.State.{pairs_below}
use Rattle.closure.proofs.count_pairs.Given as goal

abbrev pub invariant-loop-x : goal.invariant-loop-x
invariant-loop-x l = (l.x ≤ l.n) × (l.c ≡ pairs_below (matrix l.m) l.n l.x) × (l.c ≤ l.x * 256)
