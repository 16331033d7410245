-- `wording_lists::put_rows` meets its contract: what is left, written on the page as it is, gives the page with all of it. Assumes nothing.
use mathlib.Core.Path.{◌≡◌}
use Prim.Native.Nat.{◌≤◌}
use lib.ListN.{length, drop}
use Rattle.wording.specs.Pages.{page, write}
use Rattle.lists.specs.Lists.{up_to, flat}
use Rattle.wording.specs.Forms.{row_filled, rows}
use Rattle.wording_lists.proofs.put_rows.Given as goal

abbrev pub invariant-loop-i : goal.invariant-loop-i
invariant-loop-i l =
    (l.n ≤ length l.ws) × (write (flat (row_filled l.form l.k l.ws) (drop l.i (up_to l.n))) (page l.out l.next) ≡ write (rows l.form l.k l.ws) (page l.initial.out l.at))
