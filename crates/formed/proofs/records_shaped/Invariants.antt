-- `formed::records_shaped` meets its contract. Assumes nothing.
use mathlib.Core.Path.{◌≡◌}
use mathlib.Core.Bool.{true}
use Prim.Native.Nat.{◌≤◌}
use Rattle.lists.specs.Tests.{every}
use Rattle.layout.specs.Layout.{limit}
use Rattle.layout.specs.WellFormed.{record_shaped}
use Rattle.formed.proofs.records_shaped.Given as goal

abbrev pub invariant-loop-j : goal.invariant-loop-j
invariant-loop-j l = (l.j ≤ l.m) × (every (record_shaped limit l.t) l.j ≡ true)
