-- `well_formed::all_members_below` meets its contract. Assumes nothing.
use mathlib.Core.Path.{◌≡◌}
use mathlib.Core.Bool.{true}
use Prim.Native.Nat.{◌≤◌, ◌-◌}
use Rattle.lists.specs.Tests.{every}
use Rattle.layout.specs.Layout.{limit}
use Rattle.formed.specs.Records.{record_below}
use Rattle.well_formed.proofs.all_members_below.Given as goal

abbrev pub invariant-loop-j : goal.invariant-loop-j
invariant-loop-j l = (l.j ≤ l.m) × (every (record_below limit l.n l.t) l.j ≡ true)

abbrev pub decreases-loop-j : goal.decreases-loop-j
decreases-loop-j l = l.m - l.j
