-- `wording::put_text` meets its contract: what is left of the text, written on the page as it is, gives the page with all of it. Assumes nothing.
use mathlib.Core.Path.{◌≡◌}
use Prim.Native.Nat.{◌≤◌}
use lib.ListN.{length, drop}
use Rattle.wording.specs.Pages.{page, write}
use Rattle.wording.proofs.put_text.Given as goal

abbrev pub invariant-loop-i : goal.invariant-loop-i
invariant-loop-i l = (l.i ≤ length l.text) × (write (drop l.i l.text) (page l.out l.next) ≡ write l.text (page l.initial.out l.at))
