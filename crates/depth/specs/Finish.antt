-- The order in which a search from ascending starts finishes the numbers. Assumes nothing.
use Rattle.std.specs.Prelude.{Bool, cond, List, [], ℕ, zero, suc, replicate}
use Rattle.depth.specs.Dfs.{Progress, unmarked, visits}

-- a search from x, where x is not marked
unfoldable pub start_at : (ℕ → ℕ → Bool) → ℕ → ℕ → ℕ → Progress → Progress
start_at E n f x s = let r = visits E n f x s in cond (unmarked s.marks x) r s

-- from the m starts from x on
unfoldable pub sweep : (ℕ → ℕ → Bool) → ℕ → ℕ → ℕ → Progress → Progress
sweep E n zero x s = s
sweep E n (suc m) x s = sweep E n m (suc x) (start_at E n n x s)

-- before the search: no mark, nothing listed
abbrev pub untouched : Progress
untouched = record { marks = replicate 256 0; out = [] }

-- the numbers below n, as they are finished
unfoldable pub finished : (ℕ → ℕ → Bool) → ℕ → List ℕ
finished E n = (sweep E n n 0 untouched).out
