-- `desk_releasable::mark_free` meets its contract. Assumes nothing.
use Prim.Native.Nat.{◌≤◌}
use Rattle.desk_looks.specs.Held.{MarkedWhere, record_free}
use Rattle.desk_releasable.proofs.mark_free.Given as goal

abbrev pub invariant-loop-k : goal.invariant-loop-k
invariant-loop-k l = (l.k ≤ l.n) × MarkedWhere (record_free l.s l.held) l.k l.marks
