-- `parse_line::number_at` meets its contract. Assumes nothing.
use Rattle.parse_line.proofs.Faults.{number_in, number_past}
use Rattle.parse_line.proofs.number_at.Goals as goal

pub returns-then-i-count : goal.returns-then-i-count
returns-then-i-count c = search number_in

pub returns : goal.returns
returns c = search number_past
