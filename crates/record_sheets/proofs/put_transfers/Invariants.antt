-- `record_sheets::put_transfers` meets its contract. Assumes nothing.
use mathlib.Core.Path.{◌≡◌}
use Prim.Native.Nat.{◌≤◌}
use lib.ListN.{drop}
use Rattle.lists.specs.Lists.{flat}
use Rattle.layout.specs.Layout.{limit, read}
use Rattle.wording.specs.Pages.{page, write}
use Rattle.record_sheets.specs.Records.{transfer_line}
use Rattle.record_sheets.proofs.put_transfers.Given as goal

abbrev pub invariant-loop-j : goal.invariant-loop-j
invariant-loop-j l = (l.j ≤ l.m) × (write (flat (transfer_line l.form) (drop l.j (read limit l.t).hyperedges)) (page l.out l.next) ≡ write (flat (transfer_line l.form) (read limit l.t).hyperedges) (page l.initial.out l.at))
