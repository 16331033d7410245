-- `strong::free_records` meets its contract. Assumes nothing.
use mathlib.Core.Path.{◌≡◌}
use Prim.Native.Nat.{ℕ, ◌≤◌, ◌<◌}
use lib.Dec.{eqb}
use lib.ListN.{length, get_or}
use Rattle.lists.specs.Tests.{bit}
use Rattle.strong.proofs.free_records.Given as goal

abbrev pub invariant-loop-v : goal.invariant-loop-v
invariant-loop-v l = (l.v ≤ l.n) × (length l.free ≡ 256) × ((i : ℕ) → i < l.v → get_or l.free i 0 ≡ bit (eqb (get_or l.ids i 0) 0))
