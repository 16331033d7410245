-- Steps between the numbers below n, as a matrix of marks holds them. Assumes nothing.
use Rattle.std.specs.Prelude.{◌≡◌, Bool, true, List, ℕ, ◌+◌, ◌*◌, ◌<◌, eqb, get_or}

-- the graph that a matrix of marks holds
abbrev pub matrix : List ℕ → ℕ → ℕ → Bool
matrix adj x y = eqb (get_or adj (x * 256 + y) 0) 1

-- a step from x to y, both below n
abbrev pub Edge : (ℕ → ℕ → Bool) → ℕ → ℕ → ℕ → Type 0
Edge E n x y = (x < n) × (y < n) × (E x y ≡ true)

-- the relation is the same both ways
abbrev pub Symmetric : (ℕ → ℕ → Bool) → ℕ → Type 0
Symmetric E n = (i j : ℕ) → i < n → j < n → E i j ≡ E j i
