-- `wording_lists::put_more_lists` meets its contract: what is left, written on the page as it is, gives the page with all of it. Assumes nothing.
use mathlib.Core.Path.{◌≡◌}
use Prim.Native.Nat.{◌-◌}
use lib.ListN.{length, drop}
use Rattle.wording.specs.Pages.{page, write}
use Rattle.wording.specs.Forms.{listed}
use Rattle.wording_lists.proofs.put_more_lists.Given as goal

abbrev pub invariant-loop-i : goal.invariant-loop-i
invariant-loop-i l = write (listed l.opening l.opening l.none (drop l.i l.ws)) (page l.out l.next) ≡ write (listed l.opening l.opening l.none (drop l.from l.ws)) (page l.initial.out l.at)

abbrev pub decreases-loop-i : goal.decreases-loop-i
decreases-loop-i l = length l.ws - l.i
