-- `path_sheets::put_entries` meets its contract: the lines of what is left, written on the page as it is, give the page with all. Assumes nothing.
use mathlib.Core.Path.{◌≡◌}
use lib.ListN.{drop}
use Rattle.layout.specs.Layout.{limit, read}
use Rattle.wording.specs.Pages.{page, write}
use Rattle.path_sheets.specs.Path.{entry_lines}
use Rattle.path_sheets.proofs.put_entries.Given as goal

abbrev pub invariant-loop-pair : goal.invariant-loop-pair
invariant-loop-pair l =
    (l.pair-iterator.size ≡ 2)
    × (write (entry_lines l.form (read limit l.t) l.pair-iterator.rest.now) (page l.out l.next) ≡ write (entry_lines l.form (read limit l.t) (drop l.from l.words)) (page l.initial.out l.at))
