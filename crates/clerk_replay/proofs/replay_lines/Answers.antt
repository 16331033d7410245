-- `clerk_replay::replay_lines` is safe and ends. Assumes nothing.
use Prim.Native.Nat.{◌-◌}
use Rattle.batches.proofs.Carrying.{left-falls}
use Rattle.clerk_replay.proofs.replay_lines.Goals as goal

pub loop-at-smaller : goal.loop-at-smaller
loop-at-smaller g c = search left-falls
