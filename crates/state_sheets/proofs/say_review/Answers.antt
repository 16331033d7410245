-- `state_sheets::say_review` meets its contract. Assumes nothing.
use Rattle.effect_sheets.proofs.Parts.{no-numbers}
use Rattle.state_sheets.proofs.Signed.{review-put}
use Rattle.state_sheets.proofs.say_review.Goals as goal

pub returns-then-plain : goal.returns-then-plain
returns-then-plain c = search no-numbers

pub returns : goal.returns
returns c = search review-put
