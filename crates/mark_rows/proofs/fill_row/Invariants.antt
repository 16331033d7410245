-- `mark_rows::fill_row` meets its contract. Assumes nothing.
use Prim.Native.Nat.{◌≤◌}
use Rattle.mark_rows.specs.Rows.{mark_below}
use Rattle.mark_rows.proofs.Rows.{RowBegun}
use Rattle.mark_rows.proofs.fill_row.Given as goal

abbrev pub invariant-loop-w : goal.invariant-loop-w
invariant-loop-w l = (l.w ≤ 4) × RowBegun l.x l.w (mark_below l.m l.n l.x) l.initial.rows l.rows
