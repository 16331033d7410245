-- `damaged_texts::differ_at` meets its contract. Assumes nothing.
use mathlib.Core.Path.{◌≡◌}
use Prim.Native.Nat.{◌≤◌}
use lib.ListN.{length}
use Rattle.damaged_texts.proofs.differ_at.Given as goal

abbrev pub invariant-loop-b : goal.invariant-loop-b
invariant-loop-b l = (l.b ≤ 256) × ((l.sum ≤ l.b) × (length l.text ≡ length l.initial.text))
