-- `cut_vertices::judge` meets its contract: the records before v are judged, and the copy is whole. Assumes nothing.
use mathlib.Core.Path.{◌≡◌}
use Prim.Native.Nat.{◌≤◌}
use Rattle.graph.specs.Reach.{matrix}
use Rattle.cut.specs.State.{CutsMarked}
use Rattle.cut_vertices.proofs.judge.Given as goal

abbrev pub invariant-loop-v : goal.invariant-loop-v
invariant-loop-v l = (l.v ≤ l.n) × CutsMarked (matrix l.m) l.n l.v l.cuts × (l.rest ≡ l.m)
