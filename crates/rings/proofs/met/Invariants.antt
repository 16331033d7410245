-- `rings::met` meets its contract. Assumes nothing.
use mathlib.Core.Path.{◌≡◌}
use mathlib.Core.Bool.{false}
use Prim.Native.Nat.{◌≤◌, ◌-◌}
use lib.ListN.{take, drop}
use Rattle.lists.specs.Lists.{memb}
use Rattle.rings.proofs.met.Given as goal

abbrev pub invariant-loop-i : goal.invariant-loop-i
invariant-loop-i l = (l.a ≤ l.i) × (l.i ≤ 256) × (memb l.y (take (l.i - l.a) (drop l.a l.path)) ≡ false)
