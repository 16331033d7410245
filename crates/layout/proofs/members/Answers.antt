-- `layout::members` meets its contract: the part that the record's count says. Assumes nothing.
use native.Mathlib.Nat.{add-sub_cancel_left}
use Rattle.layout.proofs.members.Goals as goal

pub returns : goal.returns
returns c = simp (add-sub_cancel_left, c.member_count-n.ensures)
