-- `reads::write_column` meets its contract. Assumes nothing.
use Prim.Native.Nat.{◌≤◌}
use Rattle.layout.specs.Inner.{column}
use Rattle.lookups.proofs.Laid.{Copied}
use Rattle.reads.proofs.write_column.Given as goal

abbrev pub invariant-loop-i : goal.invariant-loop-i
invariant-loop-i l = (l.i ≤ l.n) × Copied (column l.t l.base l.step l.n) l.initial.out l.i l.out
