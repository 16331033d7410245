-- Depth first in preorder, smallest neighbour first: a number is listed when it is entered. Assumes nothing.
use Rattle.std.specs.Prelude.{Bool, List, ℕ, zero, suc}
use Rattle.depth.specs.Dfs.{Progress, mark, enlist, tried}
use Rattle.depth.specs.Finish.{untouched}

-- x is marked and listed
abbrev pub enter : ℕ → Progress → Progress
enter x s = enlist x (mark x s)

-- the steps from x to the m numbers from j on are tried, the smallest first
unfoldable pub climbs : (ℕ → ℕ → Bool) → (ℕ → Progress → Progress) → ℕ → ℕ → ℕ → Progress → Progress
climbs E v x zero j s = s
climbs E v x (suc m) j s = climbs E v x m (suc j) (tried E v x j s)

-- x is visited: it is entered, and then its steps are tried; f is at least the numbers that are not marked
unfoldable pub walks : (ℕ → ℕ → Bool) → ℕ → ℕ → ℕ → Progress → Progress
walks E n zero x s = s
walks E n (suc f) x s = climbs E (walks E n f) x n 0 (enter x s)

-- the numbers that a visit of x lists, where none is marked before
unfoldable pub preorder : (ℕ → ℕ → Bool) → ℕ → ℕ → List ℕ
preorder E n x = (walks E n n x untouched).out
