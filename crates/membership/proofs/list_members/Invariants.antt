-- `membership::list_members` meets its contract. Assumes nothing.
use Prim.Native.Nat.{◌≤◌}
use Rattle.walk.specs.Passes.{Listers}
use Rattle.membership.proofs.list_members.Given as goal

abbrev pub invariant-loop-j : goal.invariant-loop-j
invariant-loop-j l = (l.j ≤ l.k) × Listers l.t l.j l.rows l.counts
