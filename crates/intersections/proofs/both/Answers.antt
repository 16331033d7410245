-- `intersections::both` meets its contract. Assumes nothing.
use Rattle.lookups.proofs.Shared.{both-second, both-none}
use Rattle.intersections.proofs.both.Goals as goal

pub returns-then-a : goal.returns-then-a
returns-then-a c = search both-second

pub returns : goal.returns
returns c = search both-none
