-- `mark_rows::fill_rows` meets its contract. Assumes nothing.
use Prim.Native.Nat.{◌≤◌}
use Rattle.mark_rows.specs.Rows.{RowsOf}
use Rattle.mark_rows.proofs.fill_rows.Given as goal

abbrev pub invariant-loop-x : goal.invariant-loop-x
invariant-loop-x l = (l.x ≤ l.n) × RowsOf l.m l.n l.x l.rows
