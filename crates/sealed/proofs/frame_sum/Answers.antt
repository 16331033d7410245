-- `sealed::frame_sum` meets its contract. Assumes nothing.
use Rattle.reader.proofs.Digits.{summed-none, summed-more, sum-none, sum-end}
use borrow.Author.Rules.{rules}
use Rattle.sealed.proofs.frame_sum.Goals as goal

pub loop-i-init : goal.loop-i-init
loop-i-init c = (search rules, summed-none _ _)

pub returns-then-b-ge-BYTE_VALUES : goal.returns-then-b-ge-BYTE_VALUES
returns-then-b-ge-BYTE_VALUES c = search sum-none

pub loop-i-preserved : goal.loop-i-preserved
loop-i-preserved c = (search rules, search summed-more)

pub returns : goal.returns
returns c = search sum-end
