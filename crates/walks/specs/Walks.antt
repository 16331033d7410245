-- Walks along a relation, and closed walks. Assumes nothing.
use Rattle.std.specs.Prelude.{ℕ}

-- y is reached from x by a walk, of no step or more
pub data Reach (R : ℕ → ℕ → Type 0) (x : ℕ) : ℕ → Type 0 where
  here : Reach R x x
  step : {y z : ℕ} → Reach R x y → R y z → Reach R x z

-- a walk of one step or more that ends where it began
pub record Closed (R : ℕ → ℕ → Type 0) : Type 0 where
  pub from : ℕ
  pub last : ℕ
  pub walk : Reach R from last
  pub back : R last from
