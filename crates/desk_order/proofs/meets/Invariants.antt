-- `desk_order::meets` meets its contract. Assumes nothing.
use mathlib.Core.Path.{◌≡◌}
use Prim.Native.Nat.{◌≤◌}
use Rattle.lists.specs.Lists.{any, up_to}
use Rattle.layout.specs.Layout.{vertex_limit}
use Rattle.desk_order.specs.Placed.{meets_at}
use Rattle.desk_order.proofs.meets.Given as goal

abbrev pub invariant-loop-j : goal.invariant-loop-j
invariant-loop-j l = (l.j ≤ vertex_limit) × (l.met ≡ any (meets_at l.m l.placed l.k) (up_to l.j))
