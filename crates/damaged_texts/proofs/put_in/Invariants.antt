-- `damaged_texts::put_in` is safe and ends. Assumes nothing.
use Prim.Native.Nat.{◌≤◌}
use Rattle.damaged_texts.proofs.put_in.Given as goal

abbrev pub invariant-loop-at : goal.invariant-loop-at
invariant-loop-at l = l.at ≤ 114
