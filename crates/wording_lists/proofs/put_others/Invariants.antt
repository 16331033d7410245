-- `wording_lists::put_others` meets its contract: what is left, written on the page as it is, gives the page with all of it. Assumes nothing.
use mathlib.Core.Path.{◌≡◌}
use lib.ListN.{drop}
use Rattle.lists.specs.Lists.{flat}
use Rattle.wording.specs.Pages.{page, write}
use Rattle.wording_lists.specs.Parts.{after_blank}
use Rattle.wording_lists.proofs.put_others.Given as goal

abbrev pub invariant-loop-i : goal.invariant-loop-i
invariant-loop-i l = write (flat after_blank (drop l.i l.ns)) (page l.out l.next) ≡ write (flat after_blank (drop 1 l.ns)) (page l.initial.out l.at)
