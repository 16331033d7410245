-- `hyperedge_frames::put_members` meets its contract. Assumes nothing.
use mathlib.Core.Path.{◌≡◌}
use Prim.Native.Nat.{◌*◌, ◌≤◌}
use lib.ListN.{length, take}
use Rattle.lists.specs.Lists.{flat}
use Rattle.frames.specs.Frames.{member_length}
use Rattle.frames.specs.Put.{number_digits, Put}
use Rattle.hyperedge_frames.proofs.put_members.Given as goal

abbrev pub invariant-loop-i : goal.invariant-loop-i
invariant-loop-i l = (l.i ≤ length l.members) × (length l.text ≡ length l.initial.text) × Put l.at (l.i * member_length) (flat number_digits (take l.i l.members)) l.initial.text l.text l.next
