-- `desk_review::review_formed` meets its contract. Assumes nothing.
use Rattle.desk.specs.Releases.{review_result}
use Rattle.desk_review.proofs.Reviewed.{review-done}
use Rattle.desk_fits.proofs.Looked.{state-within}
use Rattle.layout.proofs.Answers.{asked-missing, taken}
use Rattle.desk_review.proofs.review_formed.Goals as goal

pub review_record-requires : goal.review_record-requires
review_record-requires c = search (state-within, taken _ _ _ c.ok_or.ensures.value _ c.in_ok-i.was)

pub returns-in_err-i : goal.returns-in_err-i
unfolding review_result
returns-in_err-i c = search (asked-missing, c.in_err-i.was)

pub returns : goal.returns
returns c = search (review-done, taken _ _ _ c.ok_or.ensures.value _ c.in_ok-i.was)
