-- `moves::first_greater` meets its contract. Assumes nothing.
use Rattle.walk.specs.Passes.{listers_of}
use Rattle.walk.proofs.Listing.{Left}
use Rattle.moves.proofs.first_greater.Given as goal

abbrev pub invariant-loop-k : goal.invariant-loop-k
invariant-loop-k l = Left l.t (listers_of l.t l.i) l.x l.sum l.k
