-- `head_line::sealed_head_good` meets its contract. Assumes nothing.
use Rattle.reader.proofs.HeadLine.{head-other, head-rest}
use Rattle.head_line.proofs.sealed_head_good.Goals as goal

pub returns-then-not-stands_at : goal.returns-then-not-stands_at
returns-then-not-stands_at c = search head-other

pub returns : goal.returns
returns c = search head-rest
