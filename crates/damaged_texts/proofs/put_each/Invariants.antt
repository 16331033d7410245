-- `damaged_texts::put_each` is safe and ends. Assumes nothing.
use Prim.Native.Nat.{◌≤◌, ◌*◌}
use Rattle.damaged_texts.proofs.put_each.Given as goal

abbrev pub invariant-loop-at : goal.invariant-loop-at
invariant-loop-at l = (l.at ≤ 115) × (l.sum ≤ l.at * 256)
