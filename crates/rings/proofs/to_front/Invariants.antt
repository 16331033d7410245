-- `rings::to_front` meets its contract. Assumes nothing.
use Prim.Native.Nat.{◌≤◌}
use Rattle.rings.specs.State.{Copied}
use Rattle.rings.proofs.to_front.Given as goal

abbrev pub invariant-loop-j : goal.invariant-loop-j
invariant-loop-j l = (l.j ≤ l.c) × Copied l.path l.a l.front l.j
