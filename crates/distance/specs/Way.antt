-- Walks with their total. Assumes nothing.
use Rattle.std.specs.Prelude.{ℕ, suc, ◌+◌}

-- a walk from x to y, the sum of W over its steps, and their number
pub data Way (R : ℕ → ℕ → Type 0) (W : ℕ → ℕ → ℕ) (x : ℕ) : ℕ → ℕ → ℕ → Type 0 where
  here : Way R W x x 0 0
  step : {y z k j : ℕ} → Way R W x y k j → R y z → Way R W x z (k + W y z) (suc j)
