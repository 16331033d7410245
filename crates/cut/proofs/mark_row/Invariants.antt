-- `cut::mark_row` meets its contract: the first i places. Assumes nothing.
use mathlib.Core.Path.{◌≡◌}
use Prim.Native.Nat.{◌≤◌}
use lib.ListN.{take}
use Rattle.cut.specs.State.{with_row}
use Rattle.cut.proofs.mark_row.Given as goal

abbrev pub invariant-loop-i : goal.invariant-loop-i
invariant-loop-i l = (l.i ≤ l.c) × (l.m ≡ with_row l.a (take l.i l.places) l.initial.m)
