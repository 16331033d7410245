-- `firsts::lists_vertex` meets its contract. Assumes nothing.
use mathlib.Core.Path.{◌≡◌}
use Prim.Native.Nat.{◌≤◌}
use lib.ListN.{length, take}
use Rattle.lists.specs.Lists.{memb}
use Rattle.firsts.proofs.lists_vertex.Given as goal

abbrev pub invariant-loop-i : goal.invariant-loop-i
invariant-loop-i l = (l.i ≤ length l.ms) × (l.found ≡ memb l.v (take l.i l.ms))
