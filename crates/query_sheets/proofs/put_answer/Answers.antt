-- `query_sheets::put_answer` meets its contract. Assumes nothing.
use Rattle.saying.proofs.Sheets.{refused-unwritten, done-written}
use Rattle.query_sheets.proofs.put_answer.Goals as goal

pub returns-in_err-n : goal.returns-in_err-n
returns-in_err-n c = search (refused-unwritten, c.in_err-n.was)

pub returns : goal.returns
returns c = search (done-written, c.in_ok-n.was)
