-- `query_sheets::put_through` meets its contract. Assumes nothing.
use Rattle.saying.proofs.Sheets.{promised-sheet}
use Rattle.query_sheets.proofs.put_through.Goals as goal

pub returns : goal.returns
returns c = search promised-sheet
