-- `distance::blocks::first_of` meets its contract: what is left of the search is the whole. Assumes nothing.
use mathlib.Core.Path.{◌≡◌}
use Prim.Native.Nat.{◌≤◌, ◌-◌}
use Rattle.order.specs.Least.{least}
use Rattle.distance.specs.Blocks.{has_key}
use Rattle.distance.proofs.blocks.first_of.Given as goal

abbrev pub invariant-loop-v : goal.invariant-loop-v
invariant-loop-v l = (l.v ≤ l.n) × (least (has_key l.m l.d l.key) (l.n - l.v) l.v ≡ least (has_key l.m l.d l.key) (l.n - l.from) l.from)
