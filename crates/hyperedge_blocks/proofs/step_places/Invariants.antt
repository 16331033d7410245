-- `hyperedge_blocks::step_places` meets its contract. Assumes nothing.
use Prim.Native.Nat.{◌≤◌}
use lib.ListN.{length}
use Rattle.layout.specs.Steps.{is_step}
use Rattle.lookups.proofs.Places.{Counted}
use Rattle.hyperedge_blocks.proofs.step_places.Given as goal

abbrev pub invariant-loop-i : goal.invariant-loop-i
invariant-loop-i l = (l.i ≤ length l.ms) × Counted (is_step l.x l.y) l.ms l.i l.n
