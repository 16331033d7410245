-- `record_sheets::put_each_tube` meets its contract. Assumes nothing.
use mathlib.Core.Path.{◌≡◌}
use Prim.Native.Nat.{◌≤◌}
use lib.ListN.{drop}
use Rattle.lists.specs.Lists.{flat}
use Rattle.layout.specs.Layout.{limit, read}
use Rattle.wording.specs.Pages.{page, write}
use Rattle.record_sheets.specs.Records.{tube_line}
use Rattle.record_sheets.proofs.put_each_tube.Given as goal

abbrev pub invariant-loop-i : goal.invariant-loop-i
invariant-loop-i l = (l.i ≤ l.n) × (write (flat (tube_line l.form l.s (read limit l.t)) (drop l.i (read limit l.t).vertices)) (page l.out l.next) ≡ write (flat (tube_line l.form l.s (read limit l.t)) (read limit l.t).vertices) (page l.initial.out l.at))
