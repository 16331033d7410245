-- `nestedness::included_marks` meets its contract. Assumes nothing.
use Prim.Native.Nat.{◌≤◌}
use Rattle.properties.specs.State.{Including}
use Rattle.nestedness.proofs.included_marks.Given as goal

abbrev pub invariant-loop-a : goal.invariant-loop-a
invariant-loop-a l = (l.a ≤ l.k) × Including l.t l.a l.inc
