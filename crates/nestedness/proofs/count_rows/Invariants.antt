-- `nestedness::count_rows` meets its contract. Assumes nothing.
use Prim.Native.Nat.{◌≤◌}
use Rattle.lists.specs.Lists.{itself}
use Rattle.layout.specs.Layout.{limit, read}
use Rattle.properties.specs.State.{row_if}
use Rattle.properties.proofs.Blocks.{Totalled}
use Rattle.nestedness.proofs.count_rows.Given as goal

abbrev pub invariant-loop-s : goal.invariant-loop-s
invariant-loop-s l = (l.s ≤ l.e) × Totalled (row_if (read limit l.t)) itself 3 l.s l.c
