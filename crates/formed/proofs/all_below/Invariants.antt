-- `formed::all_below` meets its contract: ok says that the words so far are below high. Assumes nothing.
use mathlib.Core.Path.{◌≡◌}
use Prim.Native.Nat.{◌≤◌}
use lib.ListN.{length, take}
use Rattle.lists.specs.Lists.{all, is_below}
use Rattle.formed.proofs.all_below.Given as goal

abbrev pub invariant-loop-i : goal.invariant-loop-i
invariant-loop-i l = (l.i ≤ length l.s) × (l.ok ≡ all (is_below l.high) (take l.i l.s))
