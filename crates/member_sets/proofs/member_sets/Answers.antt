-- `member_sets::member_sets` meets its contract. Assumes nothing.
use native.Mathlib.Omega.{arith}
use Rattle.properties.proofs.SetRows.{sets-none, sets_more, sets_end}
use borrow.Author.Rules.{rules}
use Rattle.member_sets.proofs.member_sets.Goals as goal

pub loop-j-init : goal.loop-j-init
loop-j-init c = (search rules, search sets-none)

pub loop-j-preserved : goal.loop-j-preserved
loop-j-preserved c =
    let s = c in (
      omega arith,
      sets_more c.loop-j.invariant.1 _ _ _ _ s.requires.formed c.vertex_count-n.ensures (omega arith) c.member_marks-marks.ensures c.put_row.ensures c.count_marked.ensures,
    )

pub returns : goal.returns
returns c = search sets_end
