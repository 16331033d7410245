-- `parse_line::judged` meets its contract. Assumes nothing.
use Rattle.parse_line.proofs.Faults.{judged-fault, judged-many, judged-wrong, judged-asks}
use Rattle.parse_line.proofs.judged.Goals as goal

pub returns-then-fault-ne0 : goal.returns-then-fault-ne0
returns-then-fault-ne0 c = search judged-fault

pub returns-then-n-gt-MOST : goal.returns-then-n-gt-MOST
returns-then-n-gt-MOST c = search judged-many

pub returns-then-not-takes : goal.returns-then-not-takes
returns-then-not-takes c = search judged-wrong

pub returns : goal.returns
returns c = search judged-asks
