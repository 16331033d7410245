-- `desk_review::once_reviewed` meets its contract. Assumes nothing.
use Rattle.desk_review.proofs.Reviewed.{waits-no-more, stays}
use Rattle.desk_review.proofs.once_reviewed.Goals as goal

pub returns-then-x-eq-WAITING : goal.returns-then-x-eq-WAITING
returns-then-x-eq-WAITING c = search waits-no-more

pub returns-else-x-eq-WAITING : goal.returns-else-x-eq-WAITING
returns-else-x-eq-WAITING c = search stays
