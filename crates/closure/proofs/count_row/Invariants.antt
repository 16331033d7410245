-- `closure::count_row` meets its contract. Assumes nothing.
use mathlib.Core.Path.{◌≡◌}
use Prim.Native.Nat.{◌≤◌}
use Rattle.lists.specs.Tests.{count}
use Rattle.graph.specs.Reach.{matrix}
use Rattle.closure.specs.Pairs.{apart}
use Rattle.closure.proofs.count_row.Given as goal

abbrev pub invariant-loop-y : goal.invariant-loop-y
invariant-loop-y l = (l.y ≤ l.n) × (l.c ≤ l.y) × (l.c ≡ count (apart (matrix l.m) l.x) l.y)
