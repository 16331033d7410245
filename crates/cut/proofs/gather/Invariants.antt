-- `cut::gather` meets its contract: the matrix after the first j hyperedges. Assumes nothing.
use Prim.Native.Nat.{◌≤◌}
use Rattle.cut.specs.State.{Gathered}
use Rattle.cut.proofs.gather.Given as goal

abbrev pub invariant-loop-j : goal.invariant-loop-j
invariant-loop-j l = (l.j ≤ l.k) × Gathered l.t l.j l.m
