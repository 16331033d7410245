-- `causes::put_walk` meets its contract. Assumes nothing.
use Rattle.causes.proofs.Causes.{walk_none, walk-one, walk_more}
use Rattle.causes.proofs.put_walk.Goals as goal

pub returns-then-walk-eq0 : goal.returns-then-walk-eq0
returns-then-walk-eq0 c = search walk_none

pub returns-then-walk-eq1 : goal.returns-then-walk-eq1
returns-then-walk-eq1 c = search walk-one

pub returns : goal.returns
returns c = search walk_more
