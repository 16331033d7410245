-- `side_by_side::places_beside` meets its contract. Assumes nothing.
use Prim.Native.Nat.{◌≤◌}
use lib.ListN.{length}
use Rattle.side_by_side.specs.Places.{joins}
use Rattle.lookups.proofs.Places.{Counted}
use Rattle.side_by_side.proofs.places_beside.Given as goal

abbrev pub invariant-loop-i : goal.invariant-loop-i
invariant-loop-i l = (l.i ≤ length l.ms) × Counted (joins l.v l.w) l.ms l.i l.n
