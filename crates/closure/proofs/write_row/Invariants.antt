-- `closure::write_row` meets its contract. Assumes nothing.
use Prim.Native.Nat.{◌≤◌}
use Rattle.layout.specs.Layout.{limit, read}
use Rattle.graph.specs.Reach.{matrix}
use Rattle.steps.specs.Matrices.{number_of}
use Rattle.closure.specs.Pairs.{apart}
use Rattle.closure.proofs.Pairs.{Row}
use Rattle.closure.proofs.write_row.Given as goal

abbrev pub invariant-loop-y : goal.invariant-loop-y
invariant-loop-y l = (l.y ≤ l.n) × Row (number_of (read limit l.t)) (apart (matrix l.m) l.x) l.x l.initial.part l.y l.i l.part
