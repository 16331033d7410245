-- The first number that passes a test. Assumes nothing.
use Rattle.std.specs.Prelude.{Bool, cond, ℕ, zero, suc}

-- of the m numbers from j on the first that passes, or j + m
unfoldable pub least : (ℕ → Bool) → ℕ → ℕ → ℕ
least f zero j = j
least f (suc m) j = let r = least f m (suc j) in cond (f j) j r
