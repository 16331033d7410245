-- What a sort is: an order in which every step goes forward, and the smallest of them. Assumes nothing.
use Rattle.std.specs.Prelude.{◌≡◌, Bool, ◌⊎◌, List, [], ◌∷◌, ℕ, ◌<◌, length, get_or}
use Rattle.lists.specs.Lists.{memb, Distinct}

-- an order of those that are live, each once and no other, in which every step goes forward
pub record Forward (live : ℕ → Bool) (R : ℕ → ℕ → Type 0) (l : List ℕ) : Type 0 where
  pub once : Distinct l
  pub same : (x : ℕ) → memb x l ≡ live x
  pub forward : (i j : ℕ) → i < length l → j < length l → R (get_or l i 0) (get_or l j 0) → i < j

-- l comes lexicographically before k, or is k
abbrev pub LexLe : List ℕ → List ℕ → Type 0
LexLe [] k = Unit {0}
LexLe (x ∷ l) [] = ⊥
LexLe (x ∷ l) (y ∷ k) = (x < y) ⊎ ((x ≡ y) × LexLe l k)

-- the sort: the lexicographically smallest order of those that are live in which every step goes forward
pub record Smallest (live : ℕ → Bool) (R : ℕ → ℕ → Type 0) (l : List ℕ) : Type 0 where
  pub order : Forward live R l
  pub least : (k : List ℕ) → Forward live R k → LexLe l k
