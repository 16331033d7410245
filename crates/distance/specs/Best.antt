-- The best walk: the least total of all walks, of those the fewest steps, of those the smallest vertex list. Assumes nothing.
use Rattle.std.specs.Prelude.{◌≡◌, ◌⊎◌, List, [], ◌∷◌, ℕ, ◌+◌, ◌<◌, length}
use Rattle.order.specs.Sort.{LexLe}

-- l is the vertices after x on a walk from x to y, each a step R away from the one before
abbrev pub Walk : (ℕ → ℕ → Type 0) → ℕ → List ℕ → ℕ → Type 0
Walk R x [] y = x ≡ y
Walk R x (v ∷ l) y = R x v × Walk R v l y

-- the total of the steps' costs W
abbrev pub total : (ℕ → ℕ → ℕ) → ℕ → List ℕ → ℕ
total W x [] = 0
total W x (v ∷ l) = W x v + total W v l

-- by total, then by steps, then by the vertex list
abbrev pub Ahead : (ℕ → ℕ → ℕ) → ℕ → List ℕ → List ℕ → Type 0
Ahead W x l k =
    (total W x l < total W x k) ⊎ ((total W x l ≡ total W x k) × ((length l < length k) ⊎ ((length l ≡ length k) × LexLe l k)))

-- a walk from x to y, and ahead of every walk from x to y
pub record Best (R : ℕ → ℕ → Type 0) (W : ℕ → ℕ → ℕ) (x y : ℕ) (l : List ℕ) : Type 0 where
  pub walk : Walk R x l y
  pub first : (k : List ℕ) → Walk R x k y → Ahead W x l k
