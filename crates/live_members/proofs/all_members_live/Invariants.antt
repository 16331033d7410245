-- `live_members::all_members_live` meets its contract. Assumes nothing.
use mathlib.Core.Path.{◌≡◌}
use mathlib.Core.Bool.{true}
use Prim.Native.Nat.{◌≤◌}
use Rattle.lists.specs.Tests.{every}
use Rattle.layout.specs.Layout.{limit, vertices_at, vertex_size}
use Rattle.layout.specs.Inner.{column}
use Rattle.formed.specs.Records.{record_live}
use Rattle.live_members.proofs.all_members_live.Given as goal

abbrev pub invariant-loop-j : goal.invariant-loop-j
invariant-loop-j l = (l.j ≤ l.m) × (every (record_live limit (column l.t vertices_at vertex_size l.n) l.t) l.j ≡ true)
