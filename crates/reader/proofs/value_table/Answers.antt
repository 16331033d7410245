-- `reader::value_table` meets its contract. Assumes nothing.
use Rattle.reader.proofs.Digits.{filled_none, filled_more, filled-end}
use borrow.Author.Rules.{rules}
use Rattle.reader.proofs.value_table.Goals as goal

pub loop-k-init : goal.loop-k-init
loop-k-init c = (search rules, filled_none)

pub loop-k-preserved : goal.loop-k-preserved
loop-k-preserved c = (search rules, search filled_more)

pub returns : goal.returns
returns c = search filled-end
