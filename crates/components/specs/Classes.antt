-- The classes of a relation among the numbers below n, one for each root. Assumes nothing.
use Rattle.std.specs.Prelude.{Bool, cond, List, [], ◌∷◌, ◌++◌, map, ℕ}
use Rattle.lists.specs.Tests.{chosen}
use Rattle.lists.specs.Lists.{memb, any, turned}
use Rattle.graph.specs.Bfs.{bfs}

-- v is reached from r
abbrev pub reached : (ℕ → ℕ → Bool) → ℕ → ℕ → ℕ → Bool
reached E n r v = memb v (bfs E n r)

-- the class of r, ascending
abbrev pub class : (ℕ → ℕ → Bool) → ℕ → ℕ → List ℕ
class P n r = chosen (P r) n

-- r becomes a root where it is in the class of no root before it
unfoldable pub rooted : (ℕ → ℕ → Bool) → List ℕ → ℕ → List ℕ
rooted P roots r = cond (any (turned P r) roots) roots (roots ++ (r ∷ []))

-- the roots after those of an order, each in turn
unfoldable pub roots_from : (ℕ → ℕ → Bool) → List ℕ → List ℕ → List ℕ
roots_from P roots [] = roots
roots_from P roots (r ∷ rs) = roots_from P (rooted P roots r) rs

-- the roots of an order
abbrev pub roots_of : (ℕ → ℕ → Bool) → List ℕ → List ℕ
roots_of P order = roots_from P [] order

-- the classes of its roots
unfoldable pub classes : (ℕ → ℕ → Bool) → ℕ → List ℕ → List (List ℕ)
classes P n order = map (class P n) (roots_of P order)
