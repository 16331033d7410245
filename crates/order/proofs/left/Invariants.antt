-- `order::left` meets its contract. Assumes nothing.
use mathlib.Core.Path.{◌≡◌}
use Prim.Native.Nat.{◌≤◌, ◌-◌}
use Rattle.order.specs.Least.{least}
use Rattle.order.specs.State.{is_free}
use Rattle.order.proofs.left.Given as goal

abbrev pub invariant-loop-k : goal.invariant-loop-k
invariant-loop-k l = (l.k ≤ l.n) × (least (is_free l.need) l.k (l.n - l.k) ≡ least (is_free l.need) l.n 0)

abbrev pub decreases-loop-k : goal.decreases-loop-k
decreases-loop-k l = l.k
