-- `components::write_classes` meets its contract. Assumes nothing.
use Prim.Native.Nat.{◌≤◌}
use Rattle.layout.specs.Layout.{limit, read}
use Rattle.steps.specs.Matrices.{number_of}
use Rattle.components.specs.Parts.{class_words}
use Rattle.components.proofs.Blocks.{Blocks}
use Rattle.components.proofs.write_classes.Given as goal

abbrev pub invariant-loop-k : goal.invariant-loop-k
invariant-loop-k l = (l.k ≤ l.c) × Blocks (class_words (number_of (read limit l.t)) l.ids l.n) l.initial.out l.k l.at l.out
