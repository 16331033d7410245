-- `moves::is_first_other` meets its contract. Assumes nothing.
use Rattle.walk.proofs.FirstPlaces.{mark-within}
use Rattle.walk.proofs.Others.{other-same, other-first}
use Rattle.moves.proofs.is_first_other.Goals as goal

pub returns-then-ms-p : goal.returns-then-ms-p
returns-then-ms-p c = search other-same

pub bounds-firsts-j : goal.bounds-firsts-j
bounds-firsts-j c = search mark-within

pub returns : goal.returns
returns c = search other-first
