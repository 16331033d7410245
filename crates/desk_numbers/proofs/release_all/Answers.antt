-- `desk_numbers::release_all` meets its contract. Assumes nothing.
use Rattle.desk_numbers.proofs.Turns.{none-released, all-released}
use Rattle.desk_numbers.proofs.release_all.Goals as goal

pub returns-in_err-a : goal.returns-in_err-a
returns-in_err-a c = search (none-released, c.in_err-a.was)

pub returns : goal.returns
returns c = search (all-released, c.in_ok-a.was)
