-- `order::first` meets its contract. Assumes nothing.
use mathlib.Core.Path.{◌≡◌}
use Prim.Native.Nat.{◌≤◌, ◌-◌}
use Rattle.order.specs.Least.{least}
use Rattle.order.specs.State.{is_free}
use Rattle.order.proofs.first.Given as goal

abbrev pub invariant-loop-j : goal.invariant-loop-j
invariant-loop-j l = (l.j ≤ l.n) × (least (is_free l.need) (l.n - l.j) l.j ≡ least (is_free l.need) l.n 0)
