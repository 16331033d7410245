-- What the code holds on its way down the keys, and what it gives for a pair. Assumes nothing.
use Rattle.std.specs.Prelude.{◌≡◌, Bool, true, false, List, ◌++◌, ℕ, ◌-◌, ◌≤◌, ◌<◌, length, take}
use Rattle.graph.specs.Reach.{Edge}
use Rattle.distance.specs.Best.{Walk, total, Best}
use Rattle.distance.specs.Path.{path}

-- the first `at` numbers of the path stand in o, and u is the last
pub record Down (E : ℕ → ℕ → Bool) (K : ℕ → ℕ → ℕ) (n : ℕ) (m d : List ℕ) (x at u : ℕ) (o : List ℕ) : Type 0 where
  pub within : at ≤ n
  pub below : u < n
  pub long : length o ≡ 256
  pub left : take at o ++ path E K n m d (n - at) u ≡ path E K n m d n x

-- the path from x stands in the first places of o
pub record Descended (E : ℕ → ℕ → Bool) (K : ℕ → ℕ → ℕ) (n : ℕ) (m d : List ℕ) (x k : ℕ) (o : List ℕ) : Type 0 where
  pub short : k ≤ n
  pub long : length o ≡ 256
  pub path : take k o ≡ path E K n m d n x

-- the answer for a pair: the best walk where there is a walk, with its total
pub record Pair (E : ℕ → ℕ → Bool) (W : ℕ → ℕ → ℕ) (n x y : ℕ) (found : Bool) (cost steps : ℕ) (o : List ℕ) : Type 0 where
  pub short : steps ≤ n
  pub long : length o ≡ 256
  pub yes : found ≡ true → Best (Edge E n) W x y (take steps o) × (cost ≡ total W x (take steps o)) × (steps ≡ length (take steps o))
  pub no : found ≡ false → (k : List ℕ) → Walk (Edge E n) x k y → ⊥
