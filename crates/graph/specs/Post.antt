-- What the marks say after a search. Assumes nothing.
use Rattle.std.specs.Prelude.{◌≡◌, Bool, List, ℕ, ◌<◌, get_or, length}
use Rattle.graph.specs.Reach.{Edge}
use Rattle.walks.specs.Walks.{Reach}

-- of the numbers below n, m marks exactly those that are reached from s: by 1, and the others by 0
pub record Reached (E : ℕ → ℕ → Bool) (n s : ℕ) (m : List ℕ) : Type 0 where
  pub long : length m ≡ 256
  pub yes : (j : ℕ) → j < n → Reach (Edge E n) s j → get_or m j 0 ≡ 1
  pub no : (j : ℕ) → j < n → (Reach (Edge E n) s j → ⊥) → get_or m j 0 ≡ 0
