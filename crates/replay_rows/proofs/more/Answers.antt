-- `replay_rows::more` meets its contract. Assumes nothing.
use Rattle.replay.proofs.AnyOrder.{a-length, a-member}
use Rattle.replay_rows.proofs.more.Goals as goal

pub returns-then-r-eq0 : goal.returns-then-r-eq0
returns-then-r-eq0 c = search a-length

pub returns : goal.returns
returns c = search a-member
