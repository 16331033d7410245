-- `desk_review::review_record` meets its contract. Assumes nothing.
use Rattle.desk_review.proofs.Reviewed.{word-reviewed}
use Rattle.desk_review.proofs.review_record.Goals as goal

pub returns : goal.returns
returns c = search word-reviewed
