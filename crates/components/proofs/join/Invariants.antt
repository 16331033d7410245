-- `components::join` meets its contract. Assumes nothing.
use Rattle.components.specs.Parts.{flagged}
use mathlib.Core.Path.{◌≡◌}
use Prim.Native.Nat.{ℕ, ◌≤◌, ◌<◌}
use mathlib.Core.Bool.{cond}
use lib.ListN.{length, get_or}
use Rattle.components.proofs.join.Given as goal

abbrev pub invariant-loop-v : goal.invariant-loop-v
invariant-loop-v l = (l.v ≤ l.n) × (length l.ids ≡ 256) × ((i : ℕ) → i < l.v → get_or l.ids i 0 ≡ cond (flagged l.marks i) l.k (get_or l.initial.ids i 0)) × ((i : ℕ) → l.v ≤ i → get_or l.ids i 0 ≡ get_or l.initial.ids i 0)
