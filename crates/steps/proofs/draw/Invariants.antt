-- `steps::draw` meets its contract: the matrix after the first j hyperedges. Assumes nothing.
use Prim.Native.Nat.{◌≤◌}
use Rattle.steps.specs.Drawn.{Drawn}
use Rattle.steps.proofs.draw.Given as goal

abbrev pub invariant-loop-j : goal.invariant-loop-j
invariant-loop-j l = (l.j ≤ l.k) × Drawn l.forth l.back l.t l.j l.m
