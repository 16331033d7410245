-- `state_sheets::put_release` meets its contract. Assumes nothing.
use Rattle.state_sheets.proofs.Signed.{again-put, release-put}
use Rattle.state_sheets.proofs.put_release.Goals as goal

pub returns-then-is_released : goal.returns-then-is_released
returns-then-is_released c = search again-put

pub returns : goal.returns
returns c = search release-put
