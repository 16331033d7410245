-- `hyperedge_frames::members_sum` meets its contract. Assumes nothing.
use mathlib.Core.Path.{◌≡◌}
use Prim.Native.Nat.{◌*◌, ◌≤◌}
use lib.ListN.{length, take}
use Rattle.lists.specs.Lists.{flat}
use Rattle.frames.specs.Frames.{number_bytes, byte_sum}
use Rattle.hyperedge_frames.proofs.members_sum.Given as goal

abbrev pub invariant-loop-i : goal.invariant-loop-i
invariant-loop-i l = (l.i ≤ length l.members) × (l.sum ≤ l.i * 1020) × (l.sum ≡ byte_sum (flat number_bytes (take l.i l.members)))
