-- `dijkstra::best_walk` meets its contract. Assumes nothing.
use mathlib.Core.Path.{refl}
use Prim.Native.Nat.{ℕ}
use native.Mathlib.Omega.{arith}
use lib.ListN.{get_or-replicate}
use Rattle.distance.proofs.Descent.{pair-no, pair-yes}
use Rattle.dijkstra.proofs.best_walk.Goals as goal

pub dijkstra-requires : goal.dijkstra-requires
dijkstra-requires c =
    (c.requires.0, c.requires.2, refl, refl, λ v l. get_or-replicate {A = ℕ} 256 v 0 0 (omega (arith, c.requires.0)), c.requires.4, c.requires.5)

pub returns-then-m-x-ne2 : goal.returns-then-m-x-ne2
returns-then-m-x-ne2 c = search pair-no

pub returns : goal.returns
returns c = search pair-yes
