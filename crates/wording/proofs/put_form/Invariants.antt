-- `wording::put_form` meets its contract: what is left of the form, filled in and written on the page as it is, gives the page with all of it. Assumes nothing.
use mathlib.Core.Path.{◌≡◌}
use lib.ListN.{drop}
use Rattle.lists.specs.Lists.{flat}
use Rattle.wording.specs.Pages.{page, write}
use Rattle.wording.specs.Forms.{meant, filled}
use Rattle.wording.proofs.put_form.Given as goal

abbrev pub invariant-loop-i : goal.invariant-loop-i
invariant-loop-i l = write (flat (meant l.ns l.name) (drop l.i l.form)) (page l.out l.next) ≡ write (filled l.form l.ns l.name) (page l.initial.out l.at)
