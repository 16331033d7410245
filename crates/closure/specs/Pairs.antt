-- The pairs of a relation among the numbers below n. Assumes nothing.
use Rattle.std.specs.Prelude.{Bool, not, List, [], ◌∷◌, ℕ, eqb}
use Rattle.lists.specs.Tests.{◌and◌, chosen}
use Rattle.lists.specs.Lists.{flat, up_to}

-- x is not y, and the relation holds
unfoldable pub apart : (ℕ → ℕ → Bool) → ℕ → ℕ → Bool
apart E x y = not (eqb x y) and E x y

-- the second of each pair whose first is x, ascending
abbrev pub seconds_of : (ℕ → ℕ → Bool) → ℕ → ℕ → List ℕ
seconds_of E n x = chosen (apart E x) n

-- a pair in two words: f gives each number its word
abbrev pub pair_words : (ℕ → ℕ) → ℕ → ℕ → List ℕ
pair_words f x y = f x ∷ f y ∷ []

-- the pairs whose first is x
unfoldable pub row_words : (ℕ → ℕ) → (ℕ → ℕ → Bool) → ℕ → ℕ → List ℕ
row_words f E n x = flat (pair_words f x) (seconds_of E n x)

-- all pairs, sorted
abbrev pub pairs_words : (ℕ → ℕ) → (ℕ → ℕ → Bool) → ℕ → List ℕ
pairs_words f E n = flat (row_words f E n) (up_to n)
