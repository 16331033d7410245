-- `put_read::place_near` meets its contract. Assumes nothing.
use Rattle.std.proofs.Common.{◌+◌, ◌*◌, ◌<◌, ◌≤◌}
use Rattle.put_read.proofs.place_near.Given as goal

abbrev pub invariant-loop-half : goal.invariant-loop-half
invariant-loop-half l = (l.p + 2 * l.half ≤ 256) × (l.p < 256)

abbrev pub decreases-loop-half : goal.decreases-loop-half
decreases-loop-half l = l.half
