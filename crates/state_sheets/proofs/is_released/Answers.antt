-- `state_sheets::is_released` meets its contract. Assumes nothing.
use Rattle.state_sheets.proofs.Signed.{none-released, here-released}
use Rattle.state_sheets.proofs.is_released.Goals as goal

pub returns-in-None : goal.returns-in-None
returns-in-None c = search none-released

pub returns-in-Some : goal.returns-in-Some
returns-in-Some c = search here-released
