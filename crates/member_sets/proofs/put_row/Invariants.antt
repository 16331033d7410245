-- `member_sets::put_row` meets its contract. Assumes nothing.
use Prim.Native.Nat.{◌≤◌}
use Rattle.layout.specs.Layout.{vertex_limit}
use Rattle.properties.specs.State.{RowPut}
use Rattle.member_sets.proofs.put_row.Given as goal

abbrev pub invariant-loop-i : goal.invariant-loop-i
invariant-loop-i l = (l.i ≤ vertex_limit) × RowPut l.marks l.j l.initial.m l.i l.m
