-- `record_sheets::put_each_listing` meets its contract. Assumes nothing.
use mathlib.Core.Path.{◌≡◌}
use Prim.Native.Nat.{◌≤◌}
use lib.ListN.{drop}
use Rattle.lists.specs.Lists.{flat}
use Rattle.layout.specs.Content.{lists, hyperedges_of}
use Rattle.layout.specs.Layout.{limit, read}
use Rattle.wording.specs.Pages.{page, write}
use Rattle.record_sheets.specs.Records.{transfer_line}
use Rattle.record_sheets.specs.Inner.{line_where}
use Rattle.record_sheets.proofs.put_each_listing.Given as goal

abbrev pub invariant-loop-j : goal.invariant-loop-j
invariant-loop-j l = (l.j ≤ l.m) × (write (flat (line_where (lists l.v) (transfer_line l.form)) (drop l.j (read limit l.t).hyperedges)) (page l.out l.next) ≡ write (flat (transfer_line l.form) (hyperedges_of (read limit l.t) l.v)) (page l.initial.out l.at))
