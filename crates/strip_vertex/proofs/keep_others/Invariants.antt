-- `strip_vertex::keep_others` meets its contract: `Kept` at each word. Assumes nothing.
use Prim.Native.Nat.{◌≤◌}
use lib.ListN.{take, drop}
use Rattle.lists.specs.Lists.{other_than, itself}
use Rattle.edits.proofs.KeptWords.{Kept}
use Rattle.strip_vertex.proofs.keep_others.Given as goal

abbrev pub invariant-loop-i : goal.invariant-loop-i
invariant-loop-i l = (l.i ≤ l.n) × Kept (other_than itself l.v) (take l.n (drop l.from l.initial.t)) l.initial.t l.to l.i l.c l.t
