-- `mark_rows::count_marks` meets its contract. Assumes nothing.
use mathlib.Core.Path.{◌≡◌}
use Prim.Native.Nat.{◌*◌, ◌≤◌}
use Rattle.lists.specs.Tests.{count}
use Rattle.mark_rows.specs.Rows.{row_mark}
use Rattle.mark_rows.proofs.count_marks.Given as goal

abbrev pub invariant-loop-w : goal.invariant-loop-w
invariant-loop-w l = (l.w ≤ 4) × (l.c ≡ count (row_mark l.rows l.x) (l.w * 64)) × (l.c ≤ l.w * 64)
