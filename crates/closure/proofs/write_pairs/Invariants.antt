-- `closure::write_pairs` meets its contract. Assumes nothing.
use Prim.Native.Nat.{◌≤◌}
use Rattle.layout.specs.Layout.{limit, read}
use Rattle.steps.specs.Matrices.{number_of}
use Rattle.graph.specs.Reach.{matrix}
use Rattle.closure.specs.Pairs.{row_words}
use Rattle.components.proofs.Blocks.{Blocks}
use Rattle.closure.proofs.write_pairs.Given as goal

abbrev pub invariant-loop-x : goal.invariant-loop-x
invariant-loop-x l = (l.x ≤ l.n) × Blocks (row_words (number_of (read limit l.t)) (matrix l.m) l.n) l.initial.out l.x l.at l.out
