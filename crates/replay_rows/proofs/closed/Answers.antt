-- `replay_rows::closed` meets its contract. Assumes nothing.
use Rattle.replay.proofs.AnyOrder.{still_open, now-closed}
use Rattle.replay_rows.proofs.closed.Goals as goal

pub returns-then-r-ne0 : goal.returns-then-r-ne0
returns-then-r-ne0 c = search still_open

pub returns : goal.returns
returns c = search now-closed
