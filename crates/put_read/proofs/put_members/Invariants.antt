-- `put_read::put_members` meets its contract. Assumes nothing.
use Rattle.std.proofs.Common.{◌≡◌, ◌≤◌, length}
use Rattle.lists.specs.Lists.{tab}
use Rattle.frames.specs.Reading.{member_in}
use Rattle.frames.specs.Put.{Put}
use Rattle.put_read.proofs.put_members.Given as goal

abbrev pub invariant-loop-i : goal.invariant-loop-i
invariant-loop-i l = (l.i ≤ l.k) × (length l.words ≡ length l.initial.words) × Put l.to l.i (tab (member_in l.text l.at) l.i) l.initial.words l.words l.next
