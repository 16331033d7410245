-- What inner functions are stated with: numbers below a bound, words written at a place, words moved down. Assumes nothing.
use Rattle.std.specs.Prelude.{◌≡◌, List, [], ◌∷◌, ◌++◌, ℕ, ◌+◌, ◌<◌, length, take, drop, replicate}
use Rattle.lists.specs.Lists.{over}

-- every number below n
abbrev pub Below : ℕ → List ℕ → Type 0
Below n [] = Unit {0}
Below n (x ∷ xs) = (x < n) × Below n xs

-- k words of 0
unfoldable pub blank : ℕ → List ℕ
blank k = replicate k 0

-- w written over the words from a on; the others are kept
unfoldable pub over_at : ℕ → List ℕ → List ℕ → List ℕ
over_at a w d = take a d ++ over w (drop a d)

-- xs is written from the front of what was lent, and k is how many words that is
pub record Wrote (xs lent : List ℕ) (k : ℕ) (exit : List ℕ) : Type 0 where
  pub words : k ≡ length xs
  pub wrote : exit ≡ over xs lent

-- the k words from a on are gone, what is behind them moves down, and k words of 0 come last
unfoldable pub shifted : List ℕ → ℕ → ℕ → List ℕ
shifted ws a k = take a ws ++ (drop (a + k) ws ++ replicate k 0)
