-- `formed::climbing` meets its contract: what is left of the test is the whole of it. Assumes nothing.
use mathlib.Core.Path.{◌≡◌}
use Prim.Native.Nat.{◌≤◌}
use lib.ListN.{drop}
use Rattle.lists.proofs.Ascend.{climbs}
use Rattle.layout.specs.Content.{numbered}
use Rattle.layout.specs.Inner.{column}
use Rattle.formed.proofs.climbing.Given as goal

abbrev pub invariant-loop-i : goal.invariant-loop-i
invariant-loop-i l = (l.i ≤ l.n) × (climbs l.low (drop l.i (column l.t l.base l.step l.n)) l.next ≡ numbered (column l.t l.base l.step l.n) l.next)
