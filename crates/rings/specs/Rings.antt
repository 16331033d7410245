-- What a ring is: a closed walk on which nothing stands twice. Assumes nothing.
use Rattle.std.specs.Prelude.{List, ℕ, suc, ◌-◌, ◌<◌, length, get_or}
use Rattle.lists.specs.Lists.{Distinct}

-- each has a step to the next, and the last to the first; one alone has a step to itself
pub record Ring (R : ℕ → ℕ → Type 0) (w : List ℕ) : Type 0 where
  pub some : 0 < length w
  pub once : Distinct w
  pub steps : (i : ℕ) → suc i < length w → R (get_or w i 0) (get_or w (suc i) 0)
  pub back : R (get_or w (length w - 1) 0) (get_or w 0 0)
