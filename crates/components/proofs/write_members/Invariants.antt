-- `components::write_members` meets its contract: `Written` at each record. Assumes nothing.
use Prim.Native.Nat.{◌≤◌}
use Rattle.steps.specs.Matrices.{number_of}
use Rattle.layout.specs.Layout.{limit, read}
use Rattle.components.specs.Parts.{in_class}
use Rattle.marks.proofs.Marked.{Written}
use Rattle.components.proofs.write_members.Given as goal

abbrev pub invariant-loop-v : goal.invariant-loop-v
invariant-loop-v l = (l.v ≤ l.n) × Written (in_class l.ids l.k) (number_of (read limit l.t)) l.initial.part l.v l.c l.part
