-- `clerk_replay::replay_lines` is safe and ends. Assumes nothing.
use mathlib.Core.Path.{◌≡◌}
use Prim.Native.Nat.{◌-◌, ◌≤◌}
use lib.ListN.{length}
use Rattle.clerk_replay.proofs.replay_lines.Given as goal

abbrev pub invariant-loop-at : goal.invariant-loop-at
invariant-loop-at g l = (l.at ≤ length l.commands) × (length l.t ≡ length l.initial.t) × (length l.s ≡ length l.initial.s)

abbrev pub decreases-loop-at : goal.decreases-loop-at
decreases-loop-at g l = length l.commands - l.at
