-- The digits of bytes, side by side. Assumes nothing.
use Rattle.std.specs.Prelude.{◌≡◌, List, ℕ, ◌+◌, ◌*◌, ◌/◌, ◌%◌, ◌<◌, length, get_or}
use Rattle.frames.specs.Frames.{byte_values, digit}

-- ps has room for the digits of every byte; those of each byte b below k stand at b * 2
pub record Pairs (k : ℕ) (ps : List ℕ) : Type 0 where
  pub sized : length ps ≡ byte_values * 2
  pub high : (b : ℕ) → b < k → get_or ps (b * 2) 0 ≡ digit (b / 16)
  pub low : (b : ℕ) → b < k → get_or ps (b * 2 + 1) 0 ≡ digit (b % 16)
