-- `nestedness::write_rows` meets its contract. Assumes nothing.
use Prim.Native.Nat.{◌≤◌}
use Rattle.lists.specs.Lists.{itself}
use Rattle.layout.specs.Layout.{limit, read}
use Rattle.lookups.proofs.Laid.{Laid}
use Rattle.properties.specs.State.{row_if}
use Rattle.nestedness.proofs.write_rows.Given as goal

abbrev pub invariant-loop-s : goal.invariant-loop-s
invariant-loop-s l = (l.s ≤ l.e) × Laid (row_if (read limit l.t)) itself l.initial.out l.s l.c l.out
