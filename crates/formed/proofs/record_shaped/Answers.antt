-- `formed::record_shaped` meets its contract: the count, and the words after the members. Assumes nothing.
use mathlib.Core.Path.{refl}
use Rattle.formed.proofs.Judged.{record-low, record-high, record-all}
use Rattle.formed.proofs.record_shaped.Goals as goal

pub returns-then-k-le0 : goal.returns-then-k-le0
returns-then-k-le0 c = search record-low

pub returns-then-k-gt-MEMBER_LIMIT : goal.returns-then-k-gt-MEMBER_LIMIT
returns-then-k-gt-MEMBER_LIMIT c = search record-high

pub returns : goal.returns
returns c = record-all _ _ _ _ c.member_count-k.ensures _ _ c.if-k-le0.false c.if-k-gt-MEMBER_LIMIT.false refl c.all_zero.ensures
