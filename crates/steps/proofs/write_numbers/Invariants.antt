-- `steps::write_numbers` meets its contract: `Wrote` at each place. Assumes nothing.
use Prim.Native.Nat.{◌≤◌}
use Rattle.layout.specs.Layout.{limit, read}
use Rattle.steps.specs.Matrices.{number_of}
use Rattle.steps.proofs.Numbers.{Wrote}
use Rattle.steps.proofs.write_numbers.Given as goal

abbrev pub invariant-loop-k : goal.invariant-loop-k
invariant-loop-k l = (l.k ≤ l.c) × Wrote (number_of (read limit l.t)) l.order l.initial.out l.k l.out
