-- `sort_sheet::sort_through` meets its contract. Assumes nothing.
use Rattle.sort_sheet.proofs.Sheet.{refused, sorted}
use Rattle.sort_sheet.proofs.sort_through.Goals as goal

pub returns-then-not-is_done : goal.returns-then-not-is_done
returns-then-not-is_done c = search refused

pub returns : goal.returns
returns c = search sorted
