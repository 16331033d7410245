-- `moves::list_others` meets its contract. Assumes nothing.
use Rattle.walk.proofs.Others.{Picked}
use Rattle.moves.proofs.list_others.Given as goal

abbrev pub invariant-loop-p : goal.invariant-loop-p
invariant-loop-p l = Picked l.v l.ms l.found l.c l.p
