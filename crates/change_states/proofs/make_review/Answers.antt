-- `change_states::make_review` meets its contract. Assumes nothing.
use Rattle.change_states.proofs.Signed.{review-refused, review-done}
use Rattle.change_states.proofs.make_review.Goals as goal

pub returns-then-not-is_done : goal.returns-then-not-is_done
returns-then-not-is_done c = search review-refused

pub returns : goal.returns
returns c = search review-done
