-- `damaged_texts::change` is safe and ends. Assumes nothing.
use Prim.Native.Nat.{◌≤◌, ◌*◌}
use Rattle.damaged_texts.proofs.change.Given as goal

abbrev pub invariant-loop-at : goal.invariant-loop-at
invariant-loop-at l = (l.at ≤ 114) × (l.sum ≤ l.at * 256)
