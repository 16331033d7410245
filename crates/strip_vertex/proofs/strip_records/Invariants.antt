-- `strip_vertex::strip_records` meets its contract: `Stripped` at each record. Assumes nothing.
use Prim.Native.Nat.{◌≤◌}
use Rattle.layout.specs.Layout.{limit}
use Rattle.edits.specs.Removing.{Stripped}
use Rattle.strip_vertex.proofs.strip_records.Given as goal

abbrev pub invariant-loop-j : goal.invariant-loop-j
invariant-loop-j l = (l.j ≤ l.m) × Stripped limit l.v l.initial.t l.j l.k l.t
