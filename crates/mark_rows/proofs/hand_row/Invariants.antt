-- `mark_rows::hand_row` meets its contract. Assumes nothing.
use Prim.Native.Nat.{◌≤◌}
use Rattle.mark_rows.proofs.Rows.{RowBegun}
use Rattle.mark_rows.specs.Rows.{either}
use Rattle.mark_rows.proofs.hand_row.Given as goal

abbrev pub invariant-loop-i : goal.invariant-loop-i
invariant-loop-i l = (l.i ≤ 4) × RowBegun l.x l.i (either l.initial.rows l.x l.k) l.initial.rows l.rows
