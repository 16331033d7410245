-- `member_sets::member_sets` meets its contract. Assumes nothing.
use Prim.Native.Nat.{◌≤◌}
use Rattle.properties.specs.State.{Sets}
use Rattle.member_sets.proofs.member_sets.Given as goal

abbrev pub invariant-loop-j : goal.invariant-loop-j
invariant-loop-j l = (l.j ≤ l.k) × Sets l.t l.j l.m l.sizes
