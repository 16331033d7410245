-- `head_line::head_end` meets its contract. Assumes nothing.
use Rattle.reader.proofs.Ends.{further-failed, further-passed}
use Rattle.reader.proofs.HeadLine.{head-unsealed}
use Rattle.reader.proofs.Frame.{sealed-by}
use borrow.Author.Rules.{rules}
use Rattle.head_line.proofs.head_end.Goals as goal

pub returns-then-end-eq0 : goal.returns-then-end-eq0
returns-then-end-eq0 c = search head-unsealed

pub sealed_head_good-requires : goal.sealed_head_good-requires
sealed_head_good-requires c = record { valued = search rules; sealed = search sealed-by }

pub returns-then-not-sealed_head_good : goal.returns-then-not-sealed_head_good
returns-then-not-sealed_head_good c = search further-failed

pub returns : goal.returns
returns c = search further-passed
