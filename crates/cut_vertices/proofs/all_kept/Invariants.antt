-- `cut_vertices::all_kept` meets its contract: all before the place. Assumes nothing.
use mathlib.Core.Path.{◌≡◌}
use mathlib.Core.Bool.{true}
use Prim.Native.Nat.{◌≤◌}
use Rattle.lists.specs.Tests.{every}
use Rattle.graph.specs.Reach.{matrix}
use Rattle.cut.specs.State.{is_kept}
use Rattle.cut_vertices.proofs.all_kept.Given as goal

abbrev pub invariant-loop-j : goal.invariant-loop-j
invariant-loop-j l = (l.j ≤ l.n) × (every (is_kept (matrix l.m) l.v l.marks) l.j ≡ true)
