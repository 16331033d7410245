-- `query_lines::put_sheet` meets its contract. Assumes nothing.
use Rattle.query_lines.proofs.Cases.{plain-sheet, worded-sheet}
use Rattle.query_lines.proofs.put_sheet.Goals as goal

pub returns-then-plain : goal.returns-then-plain
returns-then-plain c = search plain-sheet

pub returns : goal.returns
returns c = search worded-sheet
