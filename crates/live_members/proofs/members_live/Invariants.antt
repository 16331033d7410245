-- `live_members::members_live` meets its contract: what is left of the members is the whole of them. Assumes nothing.
use mathlib.Core.Path.{◌≡◌}
use Prim.Native.Nat.{◌≤◌}
use lib.ListN.{length, drop}
use Rattle.lists.specs.Lists.{all}
use Rattle.layout.specs.Content.{is_live}
use Rattle.layout.specs.Layout.{limit, vertex_limit, vertices_at, vertex_size}
use Rattle.layout.specs.Inner.{column}
use Rattle.formed.specs.Records.{record_live}
use Rattle.live_members.proofs.members_live.Given as goal

abbrev pub invariant-loop-i : goal.invariant-loop-i
invariant-loop-i l = (l.i ≤ length l.ms) × (length l.ms ≤ vertex_limit) × (all (is_live (column l.t vertices_at vertex_size l.n)) (drop l.i l.ms) ≡ record_live limit (column l.t vertices_at vertex_size l.n) l.t l.j)
