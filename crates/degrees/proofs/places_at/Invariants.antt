-- `degrees::places_at` meets its contract. Assumes nothing.
use Prim.Native.Nat.{◌≤◌}
use lib.ListN.{length}
use Rattle.lookups.specs.Lookups.{has_end}
use Rattle.lookups.proofs.Places.{Counted}
use Rattle.degrees.proofs.places_at.Given as goal

abbrev pub invariant-loop-i : goal.invariant-loop-i
invariant-loop-i l = (l.i ≤ length l.ms) × Counted (has_end l.dir l.v) l.ms l.i l.n
