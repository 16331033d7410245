-- `desk_looks::mark_state` meets its contract. Assumes nothing.
use Prim.Native.Nat.{◌≤◌}
use Rattle.desk_looks.specs.Held.{MarkedWhere, record_in}
use Rattle.desk_looks.proofs.mark_state.Given as goal

abbrev pub invariant-loop-k : goal.invariant-loop-k
invariant-loop-k l = (l.k ≤ l.n) × MarkedWhere (record_in l.s l.state) l.k l.marks
