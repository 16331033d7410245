-- `sealed::frame_sum` meets its contract. Assumes nothing.
use Prim.Native.Nat.{◌≤◌}
use Rattle.reader.proofs.Digits.{Summed}
use Rattle.sealed.proofs.frame_sum.Given as goal

abbrev pub invariant-loop-i : goal.invariant-loop-i
invariant-loop-i l = (l.i ≤ l.k) × Summed l.text l.at l.i l.sum
