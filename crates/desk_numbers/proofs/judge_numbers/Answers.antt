-- `desk_numbers::judge_numbers` meets its contract. Assumes nothing.
use Rattle.desk_numbers.proofs.Trays.{judged-first, judged-open, judged-more, judged-all}
use borrow.Author.Rules.{rules}
use Rattle.desk_numbers.proofs.judge_numbers.Goals as goal

pub loop-k-init : goal.loop-k-init
loop-k-init c = (search rules, search judged-first)

pub judge_record-tray-requires : goal.judge_record-tray-requires
judge_record-tray-requires c = search judged-open

pub loop-k-preserved : goal.loop-k-preserved
loop-k-preserved c = (search rules, search judged-more)

pub returns : goal.returns
returns c = search judged-all
