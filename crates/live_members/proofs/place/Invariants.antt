-- `live_members::place` meets its contract: the steps stay among the 256 numbers. Assumes nothing.
use Prim.Native.Nat.{◌≤◌, ◌<◌, ◌+◌, ◌*◌}
use Rattle.live_members.proofs.place.Given as goal

abbrev pub invariant-loop-half : goal.invariant-loop-half
invariant-loop-half l = (l.p + 2 * l.half ≤ 256) × (l.p < 256)

abbrev pub decreases-loop-half : goal.decreases-loop-half
decreases-loop-half l = l.half
