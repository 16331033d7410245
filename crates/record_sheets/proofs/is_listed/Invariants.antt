-- `record_sheets::is_listed` meets its contract. Assumes nothing.
use mathlib.Core.Path.{◌≡◌}
use Prim.Native.Nat.{◌≤◌}
use lib.ListN.{drop}
use Rattle.lists.specs.Lists.{any}
use Rattle.layout.specs.Content.{lists}
use Rattle.layout.specs.Layout.{limit, read}
use Rattle.record_sheets.proofs.is_listed.Given as goal

abbrev pub invariant-loop-j : goal.invariant-loop-j
invariant-loop-j l = (l.j ≤ l.m) × (any (lists l.v) (drop l.j (read limit l.t).hyperedges) ≡ any (lists l.v) (read limit l.t).hyperedges)
