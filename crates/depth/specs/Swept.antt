-- What the loop over the starts holds. Assumes nothing.
use Rattle.std.specs.Prelude.{◌≡◌, Bool, List, ℕ, ◌-◌, ◌≤◌, length, take}
use Rattle.depth.specs.Finish.{sweep, untouched, finished}
use Rattle.depth.specs.Went.{progress, Fit}

-- the starts below x are tried, and to try the rest makes the whole
pub record Swept (E : ℕ → ℕ → Bool) (n : ℕ) (m o : List ℕ) (t x : ℕ) : Type 0 where
  pub within : x ≤ n
  pub fit : Fit n m o t 0
  pub is : sweep E n (n - x) x (progress m o t) ≡ sweep E n n 0 untouched

-- the listing stands in the first t places of o
pub record Finishes (E : ℕ → ℕ → Bool) (n t : ℕ) (o : List ℕ) : Type 0 where
  pub is : take t o ≡ finished E n
  pub long : length o ≡ 256
  pub short : t ≤ n
