-- `cut::mark_pairs` meets its contract: the first i places with each. Assumes nothing.
use mathlib.Core.Path.{◌≡◌}
use Prim.Native.Nat.{◌≤◌}
use lib.ListN.{take}
use Rattle.cut.specs.State.{with_pairs}
use Rattle.cut.proofs.mark_pairs.Given as goal

abbrev pub invariant-loop-i : goal.invariant-loop-i
invariant-loop-i l = (l.i ≤ l.c) × (l.m ≡ with_pairs (take l.i l.places) (take l.c l.places) l.initial.m)
