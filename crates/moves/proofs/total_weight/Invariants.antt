-- `moves::total_weight` meets its contract. Assumes nothing.
use Rattle.walk.specs.Passes.{listers_of}
use Rattle.walk.proofs.Listing.{Summed}
use Rattle.moves.proofs.total_weight.Given as goal

abbrev pub invariant-loop-k : goal.invariant-loop-k
invariant-loop-k l = Summed l.t (listers_of l.t l.i) l.total l.k
