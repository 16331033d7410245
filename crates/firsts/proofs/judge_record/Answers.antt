-- `firsts::judge_record` meets its contract. Assumes nothing.
use Rattle.walk.proofs.FirstPlaces.{judged-more, judged-next, place-within}
use borrow.Author.Rules.{rules}
use Rattle.firsts.proofs.judge_record.Goals as goal

pub mark-requires : goal.mark-requires
mark-requires c = (search rules, search place-within)

pub loop-p-preserved : goal.loop-p-preserved
loop-p-preserved c = search judged-more

pub returns : goal.returns
returns c = search judged-next
