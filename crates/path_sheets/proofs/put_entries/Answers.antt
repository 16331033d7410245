-- `path_sheets::put_entries` meets its contract: the lines of what is left, written on the page as it is, give the page with all. Assumes nothing.
use Rattle.path_sheets.proofs.Entries.{left-entry, left-no-entry}
use mathlib.Core.Path.{◌∙◌}
use Rattle.path_sheets.proofs.put_entries.Goals as goal

pub loop-pair-preserved : goal.loop-pair-preserved
loop-pair-preserved c =
    let s = c.in-Some.ensures.steps in
    (s.0 ∙ c.loop-pair.invariant.0, search (left-entry, s.1.0, s.1.1))

pub returns : goal.returns
returns c = search (left-no-entry, c.in-None.ensures.steps.1.0)
