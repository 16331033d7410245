-- `distance::blocks::lowest` meets its contract: `Lowest` at each block. Assumes nothing.
use Prim.Native.Nat.{◌≤◌}
use Rattle.distance.specs.Blocks.{Lowest}
use Rattle.distance.proofs.blocks.lowest.Given as goal

abbrev pub invariant-loop-j : goal.invariant-loop-j
invariant-loop-j l = (l.j ≤ 16) × Lowest l.b l.j l.p.at l.p.key
