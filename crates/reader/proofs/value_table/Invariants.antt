-- `reader::value_table` meets its contract. Assumes nothing.
use Prim.Native.Nat.{◌≤◌}
use Rattle.reader.proofs.Digits.{Filled}
use Rattle.reader.proofs.value_table.Given as goal

abbrev pub invariant-loop-k : goal.invariant-loop-k
invariant-loop-k l = (l.k ≤ 16) × Filled l.values l.k
