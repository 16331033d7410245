-- `state_sheets::put_review` meets its contract. Assumes nothing.
use Rattle.state_sheets.proofs.Signed.{waiting-put, reviewed-put, released-put}
use Rattle.state_sheets.proofs.put_review.Goals as goal

pub returns-then-x-eq0 : goal.returns-then-x-eq0
returns-then-x-eq0 c = search waiting-put

pub returns-then-x-eq1 : goal.returns-then-x-eq1
returns-then-x-eq1 c = search reviewed-put

pub returns : goal.returns
returns c = search released-put
