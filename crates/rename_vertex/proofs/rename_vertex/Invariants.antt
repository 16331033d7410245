-- `rename_vertex::rename_vertex` meets its contract: `Renamed` at each record. Assumes nothing.
use mathlib.Core.Path.{◌≡◌}
use Prim.Native.Nat.{◌≤◌}
use Rattle.layout.specs.Layout.{limit, hyperedge_count}
use Rattle.rename_vertex.proofs.Renaming.{Renamed}
use Rattle.rename_vertex.proofs.rename_vertex.Given as goal

abbrev pub invariant-loop-j : goal.invariant-loop-j
invariant-loop-j l = (l.j ≤ l.m) × (l.m ≡ hyperedge_count l.initial.t) × Renamed limit l.v l.w l.initial.t l.j l.t
