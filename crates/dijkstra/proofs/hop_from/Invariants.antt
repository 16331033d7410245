-- `dijkstra::hop_from` meets its contract. Assumes nothing.
use Rattle.distance.specs.Cost.{step_back, key_back}
use Rattle.distance.specs.Path.{is_tight, hop}
use Rattle.order.specs.Least.{least}
use mathlib.Core.Path.{◌≡◌}
use Prim.Native.Nat.{◌≤◌, ◌-◌}
use Rattle.dijkstra.proofs.hop_from.Given as goal

abbrev pub invariant-loop-v : goal.invariant-loop-v
invariant-loop-v l = (l.v ≤ l.n) × (least (is_tight (step_back l.c) (key_back l.c l.w) l.m l.d l.x) (l.n - l.v) l.v ≡ hop (step_back l.c) (key_back l.c l.w) l.n l.m l.d l.x)
