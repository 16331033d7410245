-- Bytes put into a list at a place. Assumes nothing.
use Rattle.std.specs.Prelude.{◌≡◌, List, ℕ, ◌+◌, ◌≤◌, length}
use Rattle.lists.specs.Inner.{over_at}
use Rattle.frames.specs.Frames.{number_bytes, digits}

-- the n bytes xs were put at `at`, where there was room for them, and `next` is the place behind them
pub record Put (at n : ℕ) (xs before after : List ℕ) (next : ℕ) : Type 0 where
  pub sized : length xs ≡ n
  pub fits : at + n ≤ length before
  pub reached : next ≡ at + n
  pub wrote : after ≡ over_at at xs before

-- a number in digits
unfoldable pub number_digits : ℕ → List ℕ
number_digits x = digits (number_bytes x)
