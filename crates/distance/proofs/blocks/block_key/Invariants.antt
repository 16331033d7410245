-- `distance::blocks::block_key` meets its contract: `Block` of the numbers before each. Assumes nothing.
use Prim.Native.Nat.{◌*◌, ◌≤◌}
use Rattle.distance.specs.Blocks.{Block}
use Rattle.distance.proofs.blocks.block_key.Given as goal

abbrev pub invariant-loop-v : goal.invariant-loop-v
invariant-loop-v l = (l.j * 16 ≤ l.v) × (l.v ≤ l.end) × Block l.v l.m l.d l.j l.key
